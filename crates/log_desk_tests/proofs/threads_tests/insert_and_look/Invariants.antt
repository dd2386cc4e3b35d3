use Rattle.turn_lock.specs.Passes.{IsPassOf}
use Rattle.log_desk_tests.proofs.threads_tests.insert_and_look.Given as goal

abbrev pub invariant-loop-round : goal.invariant-loop-round
invariant-loop-round g l = IsPassOf l.desk l.pass
