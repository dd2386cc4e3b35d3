use Rattle.std.proofs.Common.{◌∙◌, ◌++◌, ◌∷◌, [], List, ap, arith, sym}
use Rattle.log_model.specs.History.{Numbered}
use Rattle.part_file.proofs.HoldLaws.{few-places, numbered-more}
use Rattle.part_file.proofs.filled.lent_rows.Goals as goal

pub overflow_cast-place : goal.overflow_cast-place
overflow_cast-place c =
    omega (arith, few-places c.args.rows.now c.loop-place.place c.requires c.loop-place-test.true)

pub loop-place-preserved : goal.loop-place-preserved
loop-place-preserved c =
    c.in_ok-push.ensures.items
    ∙ ap (λ (l : List Numbered). l ++ record { batch = 0; place = c.loop-place.place; row = c.index-rows-place.result } ∷ [])
    c.loop-place.invariant
    ∙ sym (numbered-more c.args.rows.now c.loop-place.place c.index-rows-place.result c.loop-place-test.true
    c.index-rows-place.is)
