use Rattle.turn_lock.specs.Passes.{IsPassOf}
use Rattle.turn_lock_tests.proofs.tests.insert_many.Given as goal

abbrev pub invariant-loop-turn : goal.invariant-loop-turn
invariant-loop-turn g l = IsPassOf l.lock l.pass
