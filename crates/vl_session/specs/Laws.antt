-- What follows from the definition of a session.
use Rattle.std.specs.Prelude.{◌≡◌, ◌⊎◌, ℕ, ◌<◌, ◌≤◌, true, List, [], ◌∷◌, ◌++◌, length, Option, filter}
use Rattle.std.specs.List.{AllByRecursion}
use Rattle.vl_io.specs.Change.{Change}
use Rattle.log_model.specs.History.{Entry, History, batches_in}
use Rattle.log_model.specs.Row.{Batch}
use Rattle.http_in.specs.Message.{Asked}
use Rattle.http_in.specs.Requests.{AreRequests}
use Rattle.log_desk.specs.Seen.{Caller, IsStrange, Seen, is_own, turn_of}
use Rattle.log_desk.specs.TurnEnd.{TurnEnd}
use Rattle.vl_session.specs.Seen.{Effect, adds, asks, looks, nothing}
use Rattle.vl_session.specs.SyslogSession.{IsSyslogSession}
use Rattle.vl_session.specs.Turns.{Turn, asked_in}
use Rattle.vl_session.specs.declared.report.End.{End}
use Rattle.vl_session.specs.declared.report.End.TheVariants as ends
use Rattle.vl_session.specs.declared.syslog_report.SyslogReport.{SyslogReport}

-- what a session of syslog is of
pub record SyslogInput : Type 0 where
  pub caller : Caller
  pub first : Seen
  pub last : Seen
  pub source : Change
  pub moments_old : Option (List ℕ)
  pub moments_new : Option (List ℕ)
  pub report : SyslogReport

abbrev pub IsTakenWhole : SyslogInput → Type 0
IsTakenWhole s = IsSyslogSession s.caller s.first s.last s.source s.moments_old s.moments_new s.report

-- the session ended by its input, and not by its own limits or those of its sink
abbrev pub IsByInput : End → Type 0
IsByInput ends.Closed = Unit {0}
IsByInput ends.AskedClose = Unit {0}
IsByInput ends.Limit = ⊥
IsByInput ends.SourceFault = Unit {0}
IsByInput ends.SinkFault = ⊥
IsByInput (ends.BadInput fault) = Unit {0}
IsByInput ends.Memory = ⊥

-- Any requests that the bytes begin with are the first of those that had their turns.
abbrev pub HaveTurns : List ℕ → List Turn → Type 0
HaveTurns bytes turns =
    (requests : List Asked) (behind : List ℕ) → AreRequests bytes requests behind
    → (more : List Asked) × (asked_in turns ≡ requests ++ more)

-- The caller made the entry, or another caller did.
abbrev pub IsOfCaller : Caller → Entry → Type 0
IsOfCaller caller entry = (is_own caller entry ≡ true) ⊎ IsStrange caller entry

-- The history goes on by entries of the caller's own, which are these batches, and of other callers. The caller left
-- this many turns more at least.
pub record Grows (caller : Caller) (old new : Seen) (batches : List Batch) (least : ℕ) : Type 0 where
  pub later : History
  pub longer : new.history ≡ old.history ++ later
  pub made : batches_in (filter (is_own caller) later) ≡ batches
  pub makers : AllByRecursion (IsOfCaller caller) later
  pub settled : old.settled ≤ new.settled
  pub stays : 0 < caller.may_settle → new.settled ≡ old.settled
  pub ends : List TurnEnd
  pub turns : new.turns ≡ old.turns ++ ends
  pub took : least ≤ length ends

-- how the turns ended that an effect took, where this was seen then
abbrev pub EndOf : Effect → Seen → List TurnEnd → Type 0
EndOf nothing seen ends = ends ≡ []
EndOf asks seen ends = Unit {0}
EndOf looks seen ends = ends ≡ turn_of seen ∷ []
EndOf (adds batch) seen ends = ends ≡ turn_of seen ∷ []

-- These are the ends of the turns that served these requests, in their order. So a reply that tells of what is held was
-- made in a turn of its own, and tells of all that was held in that turn.
abbrev pub AreEnds : List Turn → List TurnEnd → Type 0
AreEnds [] ends = ends ≡ []
AreEnds (turn ∷ turns) ends =
    (own : List TurnEnd) × (later : List TurnEnd) × (ends ≡ own ++ later) × EndOf turn.effect turn.seen own
    × AreEnds turns later
