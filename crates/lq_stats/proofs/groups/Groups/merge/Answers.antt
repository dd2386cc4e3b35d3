use Rattle.std.proofs.Common.{◌≡◌, ◌<◌, ◌+◌, ◌++◌, ◌∷◌, ◌∙◌, [], ap, get_or, length, length-append, map}
use Rattle.std.proofs.Common.{subst, sym}
use Rattle.std.proofs.Common.{arith}
use Rattle.std.proofs.lemmas.List.{get_or-map, length-map, take_all}
use Rattle.lq_ast.proofs.Sorted.{all_at}
use Rattle.lq_ast.specs.Groups.{members}
use Rattle.lq_ast.specs.Tuples.{Tuple}
use Rattle.lq_tuple.specs.Counted.{AreShort, tuple_text}
use Rattle.lq_stats.proofs.Gathering.{members_few}
use Rattle.lq_stats.proofs.JoinedStates.{popped}
use Rattle.lq_stats.proofs.Joining.{Joining, few_held, free, joining_begins, joining_ends, joining_more}
use Rattle.lq_stats.specs.Groups.{AreStates}
use Rattle.lq_stats.proofs.groups.Groups.merge.Goals as goal

pub loop-kept-init : goal.loop-kept-init
loop-kept-init c =
    let states = c.args.other.states.items in
    record {
      few = omega arith;
      left = sym (take_all (length states) states (omega arith));
      joining = λ keys statistics more records others asked bound a h.
          subst (Joining keys statistics more records others h.tuples h.once c.args.self.now) (sym h.long)
          (joining_begins keys statistics more records others h.tuples h.once c.args.self.now a);
    }

pub loop-kept-preserved-in-Continue-branch-2 : goal.loop-kept-preserved-in-Continue-branch-2
loop-kept-preserved-in-Continue-branch-2 c =
    let whole = c.args.other.states.items in
    let old = c.loop-kept.states.items in
    let new = c.pop.new.self.items in
    let kept = c.in-Some.kept in
    let n = length new in
    let inv = c.loop-kept.invariant in
    let made : old ≡ new ++ kept ∷ [] = c.in-Some.ensures.items in
    let parts = popped old new whole kept made inv.left inv.few in
    let long : length old ≡ n + 1 = ap length made ∙ length-append new (kept ∷ []) in
    record {
      few = omega (arith, inv.few);
      left = parts.0;
      joining = λ keys statistics more records others asked bound a h.
          let within : n < length h.tuples = omega (arith, inv.few, h.long) in
          let t = get_or h.tuples n [] in
          let texts = c.in_ok-texts.ensures (map tuple_text h.tuples) h.known in
          let before = subst (Joining keys statistics more records others h.tuples h.once c.loop-kept.self) long
          (inv.joining keys statistics more records others asked bound a h) in
          let shape = all_at (λ (tuple : Tuple). (length tuple ≡ length keys) × AreShort tuple) h.tuples h.wide n []
          within in
          let all = ap length texts in
          let many = length-map c.in_ok-texts.texts.items (λ text. text.now) in
          let there = length-map h.tuples tuple_text in
          let at : c.len-place.result ≡ n = omega (arith, c.len-place.ensures, c.pop.new.self.ok.0) in
          let is : c.index.result.now.now ≡ tuple_text t =
          ap (λ b. b.now) (c.index.ensures ∙ ap (λ k. get_or c.in_ok-texts.texts.items k c.index.result.now) at)
          ∙ sym (get_or-map (λ text. text.now) c.in_ok-texts.texts.items n c.index.result.now []
          (omega (arith, all, many, there)))
          ∙ ap (λ l. get_or l n []) texts ∙ get_or-map tuple_text h.tuples n [] [] within in
          let states : AreStates statistics kept.list.items (members keys others t) =
          subst (λ s. AreStates statistics s.list.items (members keys others t)) parts.1 (h.states n kept within) in
          let few_more = members_few keys others t in
          let fewer = few_held keys statistics more records others h.tuples h.once c.loop-kept.self n within before in
          joining_more keys statistics more records others h.tuples h.once c.loop-kept.self n within before
          c.take.new.self (c.in_ok-take.ensures statistics (length keys) before.tuples before.all before.held t (members keys others t)
          (record {
            asked = asked;
            said = is;
            wide = shape.0;
            short = shape.1;
            free = free keys statistics more records others h.tuples h.once c.loop-kept.self n within before;
            few = omega (arith, few_more, fewer, bound);
            over = states;
          }) before.once before.kept);
    }

pub loop-kept-preserved : goal.loop-kept-preserved
loop-kept-preserved c =
    let whole = c.args.other.states.items in
    let old = c.loop-kept.states.items in
    let new = c.pop.new.self.items in
    let kept = c.in-Some.kept in
    let inv = c.loop-kept.invariant in
    let made : old ≡ new ++ kept ∷ [] = c.in-Some.ensures.items in
    let parts = popped old new whole kept made inv.left inv.few in
    let long : length old ≡ length new + 1 = ap length made ∙ length-append new (kept ∷ []) in
    record {
      few = omega (arith, inv.few);
      left = parts.0;
      joining = λ keys statistics more records others asked bound a h.
          let texts = c.in_ok-texts.ensures (map tuple_text h.tuples) h.known in
          let all = ap length texts in
          let many = length-map c.in_ok-texts.texts.items (λ text. text.now) in
          let there = length-map h.tuples tuple_text in
          absurd (omega (
            arith,
            all,
            many,
            there,
            inv.few,
            h.long,
            c.if-place-len.false,
            c.len-place.ensures,
            c.len.ensures,
            c.pop.new.self.ok.0,
            c.in_ok-texts.texts.ok.0,
          ));
    }

pub returns : goal.returns
returns c = λ keys statistics more records others asked bound a h.
    let none : length c.loop-kept.states.items ≡ 0 =
    omega (arith, c.in_default.ensures.cases.0, c.loop-kept.states.ok.0) in
    joining_ends keys statistics more records others h.tuples h.once c.loop-kept.self
    (subst (Joining keys statistics more records others h.tuples h.once c.loop-kept.self) none
    (c.loop-kept.invariant.joining keys statistics more records others asked bound a h))
