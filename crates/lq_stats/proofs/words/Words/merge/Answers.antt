use Rattle.std.proofs.Common.{◌++◌, ◌∙◌, subst, sym}
use Rattle.std.proofs.lemmas.Result.{on_ok_weaker}
use Rattle.lq_stats.proofs.Wording.{words_swapped, words_through}
use Rattle.lq_stats.proofs.words.Words.merge.Goals.{then-len, else-len}
use Rattle.lq_stats.specs.Words.{AreWords}
use Rattle.lq_stats.proofs.words.Words.merge.Goals as goal

pub returns : goal.returns
returns c =
    let new = c.take_all.new.self in
    on_ok_weaker c.take_all.result
    (λ takes texts more h k.
    elim c.if-len.branch [
      | then-len w ↦
          let words = c.args.self.now.words.items in
          let before = subst (λ s. AreWords s more) (sym (w.self-is ∙ w.swap.ensures.x_after)) k in
          let after = subst (λ o. AreWords new (more ++ o.words.items)) (w.others-is ∙ w.swap.ensures.y_after)
          (takes more before) in
          words_swapped new texts more (words_through new more words texts after h.once)
      | else-len w ↦
          let words = c.args.others.words.items in
          let before = subst (λ s. AreWords s texts) (sym w.self-is) h in
          let after = subst (λ o. AreWords new (texts ++ o.words.items)) w.others-is (takes texts before) in
          words_through new texts words more after k.once
    ]) c.take_all.ensures
