use Rattle.std.proofs.Common.{subst, refl, arith}
use Rattle.lq_tuple.specs.Places.{IsPlaced}
use Rattle.lq_stats.proofs.Wording.{word_new, word_old}
use Rattle.lq_stats.proofs.words.Words.take.Goals as goal

pub returns-in_ok-push : goal.returns-in_ok-push
returns-in_ok-push c = λ texts h.
    let old = c.args.self.now in
    word_new old (record { places = c.place.new.self; words = c.push.new.self }) texts c.args.word c.in_ok-place.place
    (subst (λ t. IsPlaced c.place.new.self old.words.items t c.in_ok-place.place) c.as_str.ensures.value
    (c.in_ok-place.ensures old.words.items h.known))
    (omega (arith, c.if-place-len.true, c.len.ensures, old.words.ok.0)) c.in_ok-push.ensures.items h

pub returns-else-place-len : goal.returns-else-place-len
returns-else-place-len c = λ texts h.
    let old = c.args.self.now in
    word_old old (record { places = c.place.new.self; words = old.words }) texts c.args.word c.in_ok-place.place
    (subst (λ t. IsPlaced c.place.new.self old.words.items t c.in_ok-place.place) c.as_str.ensures.value
    (c.in_ok-place.ensures old.words.items h.known))
    (omega (arith, c.if-place-len.false, c.len.ensures, old.words.ok.0)) refl h
