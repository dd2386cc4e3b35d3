-- What one step of a session does: it reads a request or ends, and it serves a request.
use Rattle.std.specs.Prelude.{◌≡◌, ℕ, false, true, List, [], ◌∷◌, ◌++◌, length, MatchResult, Option, None, Result}
use Rattle.std.specs.Prelude.{string_bytes}
use Rattle.vl_io.specs.Bytes.{Consumes}
use Rattle.vl_io.specs.Change.{Change, HasFailed, IsCut, IsSpent, IsUntold, Took}
use Rattle.http_in.specs.Faults.{IsInside}
use Rattle.http_in.specs.Message.{Asked}
use Rattle.http_in.specs.Reading.{FindsRequest, Holds, Reading}
use Rattle.http_in.specs.declared.fault.RequestFault.{RequestFault}
use Rattle.log_desk.specs.Seen.{Caller, Seen}
use Rattle.vl_session.specs.Session.{StopsReading, fault_bytes}
use Rattle.vl_session.specs.Turns.{IsDone, IsTurn, Turn}
use Rattle.vl_session.specs.declared.log.Reply.{Reply}
use Rattle.vl_session.specs.declared.log.Reply.TheVariants.{Whole, Parts, Fixed}
use Rattle.vl_session.specs.declared.report.Done.{Done}
use Rattle.vl_session.specs.declared.report.End.{End}
use Rattle.vl_session.specs.declared.report.End.TheVariants as ends

-- the bytes of a reply
abbrev pub bytes_of : Reply → List ℕ
bytes_of (Whole text) = string_bytes text
bytes_of (Parts head content) = string_bytes head ++ content
bytes_of (Fixed text) = text.now

-- the reader read a request, and stands after it
pub record Reaches (old new : Reading) (left_old left_new : Option (List ℕ)) (asked : Asked) : Type 0 where
  pub piece : List ℕ
  pub consumed : Consumes left_old left_new piece
  pub finds : (start : ℕ) (bytes : List ℕ) → Holds start bytes old.held
      → FindsRequest start (bytes ++ piece) new.held asked
  pub faultless : new.fault ≡ None

-- why no further request is served, where these bytes follow, and what is written then
abbrev pub EndsReading : Change → Change → ℕ → List ℕ → End → Type 0
EndsReading source sink start bytes ends.Closed = (bytes ≡ []) × IsSpent source × IsUntold sink
EndsReading source sink start bytes ends.AskedClose = ⊥
EndsReading source sink start bytes ends.Limit = ⊥
EndsReading source sink start bytes ends.SourceFault = HasFailed source × IsInside bytes × IsUntold sink
EndsReading source sink start bytes ends.SinkFault =
    (fault : RequestFault) × StopsReading start bytes (IsSpent source) fault × IsCut sink [] (fault_bytes fault)
EndsReading source sink start bytes (ends.BadInput fault) =
    StopsReading start bytes (IsSpent source) fault × Took sink (fault_bytes fault)
EndsReading source sink start bytes ends.Memory = IsUntold sink

-- how the session ends at a fault of the bytes
abbrev pub EndsRefused : Change → RequestFault → End → Type 0
EndsRefused sink fault (ends.BadInput said) = (said ≡ fault) × Took sink (fault_bytes fault)
EndsRefused sink fault ends.SinkFault = IsCut sink [] (fault_bytes fault)
EndsRefused sink fault other = ⊥

-- A request was served, as the turn before which this many came, and noted.
pub record Serves (caller : Caller) (asked : Asked) (old new : Seen) (dones_old dones_new : List Done)
    (turn : Turn) : Type 0 where
  pub asked_is : turn.asked ≡ asked
  pub served : IsTurn caller (length dones_old) old turn
  pub seen : new ≡ turn.seen
  pub done : Done
  pub shown : IsDone turn done
  pub noted : dones_new ≡ dones_old ++ done ∷ []

-- why the session ends with a turn
abbrev pub EndsTurn : Turn → Change → End → Type 0
EndsTurn turn sink ends.AskedClose = (turn.asked.last ≡ true) × Took sink turn.reply
EndsTurn turn sink ends.SinkFault = IsCut sink [] turn.reply
EndsTurn turn sink other = ⊥

-- The session goes on after the turn, or ends with it.
abbrev pub GoesOn : {T : Type 0} → Turn → Change → Result T End → Type 0
GoesOn turn sink result =
    MatchResult result (λ _. (turn.asked.last ≡ false) × Took sink turn.reply) (λ end. EndsTurn turn sink end)
