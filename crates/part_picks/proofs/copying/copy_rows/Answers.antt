use Rattle.std.proofs.Common.{◌∙◌}
use Rattle.part_picks.proofs.RangeLaws.{push-row}
use Rattle.part_picks.proofs.copying.copy_rows.Goals as goal

pub loop-i-preserved : goal.loop-i-preserved
loop-i-preserved c =
    c.in_ok-push.ensures.items
    ∙ push-row c.args.rows.now.items c.args.pick.now c.loop-i.rows.items c.loop-i.i c.in_ok-row.field-0
    c.loop-i.invariant c.in_ok-row.ensures
