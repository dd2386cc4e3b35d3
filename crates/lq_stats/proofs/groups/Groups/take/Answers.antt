use Rattle.std.proofs.Common.{◌<◌, ◌∙◌, length, map, refl, subst, sym, arith}
use Rattle.std.proofs.lemmas.List.{get_or_default}
use Rattle.std.proofs.lemmas.Result.{on_ok_weaker}
use Rattle.lq_tuple.proofs.Counting.{placed_tuple}
use Rattle.lq_tuple.specs.Counted.{HaveLength, tuple_text}
use Rattle.lq_stats.proofs.Entering.{taken_new, taken_old}
use Rattle.lq_stats.specs.Groups.{AreStates}
use Rattle.lq_stats.proofs.groups.Groups.take.Goals as goal

pub returns : goal.returns
returns c = λ statistics width tuples all held t more m once kept.
    taken_new statistics width tuples all held t more m.wide m.short m.free once c.args.self.now
    (record { places = c.place.new.self; states = c.push.new.self }) c.args.states c.in_ok-place.place kept
    (placed_tuple c.place.new.self tuples t c.args.text.now c.in_ok-place.place m.said
    (subst (λ n. HaveLength n tuples) (sym m.wide) kept.wide) m.short
    (c.in_ok-place.ensures (map tuple_text tuples) kept.known))
    (omega (arith, c.if-place-len.false, c.len.ensures, c.args.self.now.states.ok.0)) c.in_ok-push.ensures.items m.over

pub returns-then-place-len : goal.returns-then-place-len
returns-then-place-len c =
    let place = c.in_ok-place.place in
    let states = c.args.self.now.states.items in
    on_ok_weaker c.merge.result
    (λ joins statistics width tuples all held t more m once kept.
    let inside : place < length states =
    omega (arith, c.if-place-len.true, c.len.ensures, c.args.self.now.states.ok.0) in
    taken_old statistics width tuples all held t more m.wide m.short m.free once c.args.self.now _ c.merge.new.self
    place kept
    (placed_tuple c.place.new.self tuples t c.args.text.now place m.said
    (subst (λ n. HaveLength n tuples) (sym m.wide) kept.wide) m.short
    (c.in_ok-place.ensures (map tuple_text tuples) kept.known))
    inside refl
    (λ d before. joins statistics (held t) more m.asked m.few
    (subst (λ s. AreStates statistics s.list.items (held t))
    (sym (c.index_mut.ensures.value ∙ get_or_default states place c.index_mut.result.now d inside)) before) m.over))
    c.merge.ensures
