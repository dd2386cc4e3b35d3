use Rattle.turn_lock.specs.Passes.{IsPassOf}
use Rattle.log_desk_tests.proofs.desk_tests.inserts_in_turn.Given as goal

abbrev pub invariant-loop-number : goal.invariant-loop-number
invariant-loop-number g l = IsPassOf l.desk l.pass
