use Rattle.turn_lock.specs.Passes.{IsPassOf}
use Rattle.vl_session_tests.proofs.opened_tests.push_answers.Given as goal

abbrev pub invariant-loop-query : goal.invariant-loop-query
invariant-loop-query g l = IsPassOf l.desk l.pass
