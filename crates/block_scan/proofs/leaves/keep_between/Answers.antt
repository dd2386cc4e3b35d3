use Rattle.std.proofs.Common.{FitsSigned}
use Rattle.std.proofs.lemmas.Int.{to_z-of_z}
use Rattle.std.specs.Int.{w128}
use Rattle.block_scan.proofs.leaves.keep_between.Goals as goal

pub returns : goal.returns
returns c =
    let from : FitsSigned w128 c.args.from = c.ranges.from in
    let to : FitsSigned w128 c.args.to = c.ranges.to in
    simp to_z-of_z at c.keep_during.ensures
