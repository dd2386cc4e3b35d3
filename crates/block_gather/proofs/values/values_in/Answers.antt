use Rattle.std.proofs.Common.{◌++◌, ◌∙◌, ℕ, List, ap, sym}
use Rattle.log_model.specs.Field.{field_value}
use Rattle.log_model.specs.History.{Numbered}
use Rattle.block_model.specs.Columns.{values_of}
use Rattle.block_gather.specs.Picked.{rows_of}
use Rattle.block_gather.proofs.SliceLaws.{picked-map-more}
use Rattle.block_gather.proofs.values.values_in.Goals as goal

pub loop-pick-preserved : goal.loop-pick-preserved
loop-pick-preserved c =
    let more : List (List ℕ) = values_of (rows_of c.pick-item.result) c.args.name.now in
    c.in_ok-put_values.ensures
    ∙ ap (λ (l : List (List ℕ)). l ++ more) c.loop-pick.invariant
    ∙ sym (picked-map-more (λ (n : Numbered). field_value n.row.fields c.args.name.now) c.args.picks.now
    c.loop-pick.pick-index c.pick-item.result c.loop-pick-test.true c.pick-item.is)
