use Rattle.turn_lock.specs.Passes.{IsPassOf}
use Rattle.vl_session_tests.proofs.inserts_tests.Caller.insert.Given as goal

abbrev pub invariant-loop : goal.invariant-loop
invariant-loop g l = IsPassOf l.desk l.self.pass
