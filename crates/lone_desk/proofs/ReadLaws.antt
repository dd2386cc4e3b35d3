-- The result of lines that were read before, with a single caller.
use Rattle.std.proofs.Common.{◌≡◌, ℕ, ℤ, pos, unsigned_abs, List, Result, Ok, Err, subst}
use Rattle.std.specs.Prelude.{IfErr, IfOk}
use Rattle.ingest_row.specs.Ingest.{Options}
use Rattle.ingest_row.specs.Intake.{Outcome}
use Rattle.log_desk.specs.Seen.{Caller, Seen}
use Rattle.vl_session.specs.Incoming.{Commits, IsIncoming, IsNoBatch, IsUncommitted}
use Rattle.vl_session.specs.declared.insert.Incoming.{Incoming}
use Rattle.vl_session.specs.declared.insert.Insertion.{Insertion}
use Rattle.vl_session.specs.declared.insert.InsertionFault.{InsertionFault}
use Rattle.vl_session.proofs.InsertionLemmas.{inserts, refuses_lines, refuses_rows}
use Rattle.lone_desk.specs.Alone.{InsertsAlone, IsAlone, IsReading, RefusesAlone}

module _ (caller : Caller) (alone : IsAlone caller) (options : Options) (now : ℕ) (body : List ℕ) where
  -- what was read is inserted
  pub inserts_read : (old new : Seen) (incoming : Incoming) (result : Result Insertion InsertionFault)
      → IsReading options now body (Ok incoming) → IfOk result (Commits caller incoming old new)
      → IfOk result (InsertsAlone options now body old new)
  inserts_read old new incoming (Ok insertion) (outcomes, is) commits =
      (caller, alone, inserts caller options now body outcomes old new is.given incoming insertion is commits)
  inserts_read old new incoming (Err fault) is commits = tt

  -- or not
  pub refuses_read : (old new : Seen) (incoming : Incoming) (result : Result Insertion InsertionFault)
      → IsReading options now body (Ok incoming) → IfErr result (IsUncommitted caller incoming old new)
      → IfErr result (RefusesAlone options now body old new)
  refuses_read old new incoming (Ok insertion) is why = tt
  refuses_read old new incoming (Err fault) (outcomes, is) why =
      (caller, alone, refuses_rows caller options now body outcomes old new is.given incoming fault is why)

  -- nothing was read
  pub refuses_unread : (seen : Seen) (fault : InsertionFault) → IsReading options now body (Err fault)
      → RefusesAlone options now body seen seen fault
  refuses_unread seen fault unread = (caller, alone, refuses_lines caller options now body seen fault unread)

-- a body at a moment that is not negative
pub reading_at : (options : Options) (now : ℤ) (body : List ℕ) (result : Result Incoming InsertionFault)
    → now ≡ pos (unsigned_abs now)
    → IfOk result (λ incoming. (outcomes : List Outcome) × IsIncoming options now body outcomes incoming)
    → IfErr result (IsNoBatch options now body) → IsReading options (unsigned_abs now) body result
reading_at options now body (Ok incoming) moment (outcomes, is) unread =
    (outcomes, subst (λ t. IsIncoming options t body outcomes incoming) moment is)
reading_at options now body (Err fault) moment is unread = subst (λ t. IsNoBatch options t body fault) moment unread
