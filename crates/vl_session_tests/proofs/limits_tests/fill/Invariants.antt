use Rattle.turn_lock.specs.Passes.{IsPassOf}
use Rattle.vl_session_tests.proofs.limits_tests.fill.Given as goal

abbrev pub invariant-loop-number : goal.invariant-loop-number
invariant-loop-number g l = IsPassOf l.desk l.pass
