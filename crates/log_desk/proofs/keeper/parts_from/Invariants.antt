use Rattle.std.proofs.Common.{◌≡◌, ◌++◌, drop}
use Rattle.log_model.specs.Core.{parts_of}
use Rattle.log_core.specs.Shared.{shared_parts}
use Rattle.log_desk.proofs.keeper.parts_from.Given as goal

abbrev pub invariant-loop-place : goal.invariant-loop-place
invariant-loop-place l = shared_parts l.parts.items ++ drop l.place (parts_of l.look) ≡ drop l.from (parts_of l.look)
