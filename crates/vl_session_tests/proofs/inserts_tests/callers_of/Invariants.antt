use Rattle.std.specs.List.{AllByRecursion}
use Rattle.turn_lock.specs.Passes.{IsPassOf}
use Rattle.vl_session_tests.specs.Callers.{IsCallerOf}
use Rattle.vl_session_tests.proofs.inserts_tests.callers_of.Given as goal

abbrev pub invariant-loop : goal.invariant-loop
invariant-loop l = IsPassOf l.desk l.pass × AllByRecursion (IsCallerOf l.desk) l.callers.items
