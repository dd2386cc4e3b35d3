use Rattle.std.proofs.Common.{◌≡◌, take}
use Rattle.log_model.specs.Core.{parts_of}
use Rattle.log_core.specs.Shared.{shared_parts}
use Rattle.log_desk_tests.proofs.parts_tests.first_parts.Given as goal

abbrev pub invariant-loop-place : goal.invariant-loop-place
invariant-loop-place l = shared_parts l.parts.items ≡ take l.place (parts_of l.look)
