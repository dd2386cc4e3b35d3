use Rattle.turn_lock.specs.Passes.{IsPassOf}
use Rattle.query_run_tests.proofs.batch_tests.insert_all.Given as goal

abbrev pub invariant-loop-rows : goal.invariant-loop-rows
invariant-loop-rows g l = IsPassOf l.desk l.pass
