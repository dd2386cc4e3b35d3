use Rattle.std.proofs.Common.{◌<◌, Some, arith, length}
use Rattle.lq_filter.proofs.Slots.{slice_get-slice_set}
use Rattle.lq_filter.proofs.asking.Asking.keep.Goals as goal

pub returns : goal.returns
returns c =
    let below : c.args.place < length c.loop-self.self.slots.items =
    omega (arith, c.loop-self-test.false, c.len.ensures) in
    slice_get-slice_set c.loop-self.self.slots.items c.args.place (Some c.args.slot) below
