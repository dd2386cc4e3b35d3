use Rattle.std.proofs.Common.{◌≡◌, ◌++◌, drop, map, take}
use Rattle.log_model.specs.History.{with_batch}
use Rattle.part_file.proofs.held.set_batches.Given as goal

abbrev pub invariant-loop-block : goal.invariant-loop-block
invariant-loop-block l =
    l.blocks ≡ map (with_batch l.number) (take l.block-index l.initial.blocks) ++ drop l.block-index l.initial.blocks
