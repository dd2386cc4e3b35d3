-- Those who insert.
use Rattle.turn_lock.specs.Passes.{IsPassOf, LockId}
use Rattle.vl_session_tests.specs.declared.inserts_tests.Caller.{Caller}

-- its pass is one of this desk
abbrev pub IsCallerOf : LockId → Caller → Type 0
IsCallerOf lock caller = IsPassOf lock caller.pass
