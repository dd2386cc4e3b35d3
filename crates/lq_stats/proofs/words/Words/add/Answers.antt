use Rattle.std.proofs.Common.{◌++◌, [], ◌∷◌, ◌∙◌, ap, refl, arith}
use Rattle.lq_stats.proofs.Wording.{word_new, word_old}
use Rattle.lq_stats.proofs.words.Words.add.Goals as goal

pub returns-in_ok-push : goal.returns-in_ok-push
returns-in_ok-push c = λ texts h.
    let old = c.args.self.now in
    word_new old (record { places = c.place.new.self; words = c.push.new.self }) texts c.args.text.now
    c.in_ok-place.place (c.in_ok-place.ensures old.words.items h.known) (omega (arith, c.if-place-len.true, c.len.ensures, old.words.ok.0))
    (c.in_ok-push.ensures.items ∙ ap (λ t. old.words.items ++ t ∷ []) c.in_ok-try_of.ensures) h

pub returns-else-place-len : goal.returns-else-place-len
returns-else-place-len c = λ texts h.
    let old = c.args.self.now in
    word_old old (record { places = c.place.new.self; words = old.words }) texts c.args.text.now c.in_ok-place.place
    (c.in_ok-place.ensures old.words.items h.known) (omega (arith, c.if-place-len.false, c.len.ensures, old.words.ok.0))
    refl h
