-- One session of HTTP: the result of a connection.
use Rattle.std.specs.Prelude.{◌≡◌, ◌⊎◌, ℕ, ◌<◌, ◌≤◌, true, false, List, [], ◌∷◌, ◌++◌, length, Option, Some}
use Rattle.std.specs.Prelude.{unwrap_or}
use Rattle.std.specs.List.{AllZip}
use Rattle.vl_io.specs.Change.{Change, Gave, HasFailed, IsCut, IsSpent, Took}
use Rattle.http_in.specs.Faults.{IsInside}
use Rattle.http_in.specs.Reading.{Explains, lasting}
use Rattle.http_in.specs.Requests.{AreRequests, asked_to_close}
use Rattle.http_in.specs.declared.fault.RequestFault.{RequestFault}
use Rattle.http_route.specs.Refusal.{fault_page}
use Rattle.log_desk.specs.Seen.{Caller, Seen}
use Rattle.vl_session.specs.Turns.{AreTurns, GaveMoments, IsDone, Turn, asked_in, moments_of, replies_of, turn_limit}
use Rattle.vl_session.specs.declared.report.Done.{Done}
use Rattle.vl_session.specs.declared.report.End.{End}
use Rattle.vl_session.specs.declared.report.End.TheVariants as ends

-- what is written to bytes that are not a request; nothing where the input ended or failed
abbrev pub fault_bytes : RequestFault → List ℕ
fault_bytes fault = unwrap_or (fault_page fault) []

-- No turn asked to close, and there may be another.
abbrev pub StaysOpen : List Turn → Type 0
StaysOpen turns = (asked_to_close (asked_in turns) ≡ false) × (length turns < turn_limit)

-- What follows the requests is none, for this reason, which is one of the bytes.
pub record StopsReading (start : ℕ) (rest : List ℕ) (ended : Type 0) (fault : RequestFault) : Type 0 where
  pub explained : Explains start rest ended fault
  pub lasts : lasting fault ≡ Some fault

-- Of the last reply, or of the one to a fault, only a proper prefix was written, since the sink failed.
abbrev pub IsReplyCut : Change → List Turn → ℕ → List ℕ → Type 0 → Type 0
IsReplyCut sink turns start rest ended =
    ((front : List Turn) × (turn : Turn) × (turns ≡ front ++ turn ∷ []) × IsCut sink (replies_of front) turn.reply)
    ⊎ (StaysOpen turns
    × ((fault : RequestFault) × StopsReading start rest ended fault
    × IsCut sink (replies_of turns) (fault_bytes fault)))

-- Why the session ends, after these turns and before this rest, which begins at that place.
abbrev pub Ends : Change → Change → List Turn → ℕ → List ℕ → End → Type 0
Ends source sink turns start rest ends.Closed =
    (rest ≡ []) × IsSpent source × StaysOpen turns × Took sink (replies_of turns)
Ends source sink turns start rest ends.AskedClose =
    (asked_to_close (asked_in turns) ≡ true) × Took sink (replies_of turns)
Ends source sink turns start rest ends.Limit =
    (length turns ≡ turn_limit) × (asked_to_close (asked_in turns) ≡ false) × Took sink (replies_of turns)
Ends source sink turns start rest ends.SourceFault =
    HasFailed source × IsInside rest × StaysOpen turns × Took sink (replies_of turns)
Ends source sink turns start rest ends.SinkFault = IsReplyCut sink turns start rest (IsSpent source)
Ends source sink turns start rest (ends.BadInput fault) =
    StopsReading start rest (IsSpent source) fault × StaysOpen turns × Took sink (replies_of turns ++ fault_bytes fault)
Ends source sink turns start rest ends.Memory = StaysOpen turns × Took sink (replies_of turns)

-- The source gave these bytes. They begin with the requests of these turns, and `rest` follows those.
pub record IsServing (caller : Caller) (first last : Seen) (source : Change)
    (moments_old moments_new : Option (List ℕ)) (turns : List Turn) (rest : List ℕ) : Type 0 where
  pub used : List ℕ
  pub gave : Gave source (used ++ rest)
  pub requests : AreRequests (used ++ rest) (asked_in turns) rest
  pub ran : AreTurns caller 0 first turns last
  pub told : GaveMoments moments_old moments_new (moments_of turns)

-- what a session is of: a caller, what it had seen before and then, the objects of the outside, and the report
pub record Connection : Type 0 where
  pub caller : Caller
  pub first : Seen
  pub last : Seen
  pub source : Change
  pub sink : Change
  pub moments_old : Option (List ℕ)
  pub moments_new : Option (List ℕ)
  pub dones : List Done
  pub end : End

-- One session.
pub record IsSession (c : Connection) : Type 0 where
  pub turns : List Turn
  pub few : length turns ≤ turn_limit
  pub rest : List ℕ
  pub serving : IsServing c.caller c.first c.last c.source c.moments_old c.moments_new turns rest
  pub done : AllZip IsDone turns c.dones
  pub ends : Ends c.source c.sink turns (length serving.used) rest c.end

-- the same, part by part
abbrev pub connection : Caller → Seen → Seen → Change → Change → Option (List ℕ) → Option (List ℕ) → List Done → End
    → Connection
connection caller first last source sink moments_old moments_new dones end = record {
  caller = caller;
  first = first;
  last = last;
  source = source;
  sink = sink;
  moments_old = moments_old;
  moments_new = moments_new;
  dones = dones;
  end = end;
}
