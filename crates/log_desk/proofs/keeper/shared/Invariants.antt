use Rattle.std.proofs.Common.{◌≡◌, map, take}
use Rattle.log_core.specs.Shared.{shared_parts}
use Rattle.part_store.specs.State.{listed_of}
use Rattle.log_desk.specs.Keeping.{rows_listed}
use Rattle.log_desk.proofs.keeper.shared.Given as goal

abbrev pub invariant-loop-one : goal.invariant-loop-one
invariant-loop-one l = shared_parts l.parts.items ≡ rows_listed (map listed_of (take l.one-index l.stored))
