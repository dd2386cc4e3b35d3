-- How a session of syslog takes its input, a read at a time.
use Rattle.std.specs.Prelude.{◌≡◌, ℕ, ◌*◌, ◌+◌, ◌<◌, ◌≤◌, List, [], ◌++◌, length, take, drop}
use Rattle.std.specs.Prelude.{count_by, Option, None, Some, is_none}
use Rattle.std.specs.List.{AllZip}
use Rattle.vl_io.specs.Change.{Change, Gave, HasFailed, IsSpent}
use Rattle.log_desk.specs.declared.fault.InsertFault.{InsertFault}
use Rattle.log_desk.specs.declared.fault.InsertFault.TheVariants as desk
use Rattle.log_model.specs.Core.{held_limit}
use Rattle.log_model.specs.Row.{Batch, Row}
use Rattle.syslog_in.specs.Framer.{Completes, Ends, Framing, HasTaken}
use Rattle.syslog_in.specs.declared.fault.FrameFault.{FrameFault}
use Rattle.syslog_in.specs.declared.fault.FrameFault.TheVariants as faults
use Rattle.log_desk.specs.Seen.{Caller, Seen}
use Rattle.vl_session.specs.Seen.{Has, HasLastNumber, IsFull}
use Rattle.vl_session.specs.SyslogSession.{AreBatches, IsBadFrame, IsMessageOutcome, TakesAll, batch_rows}
use Rattle.vl_session.specs.SyslogSession.{end_effect, read_limit, message_rows}
use Rattle.vl_session.specs.SyslogSession.{session_limit}
use Rattle.vl_session.specs.declared.syslog_intake.Chunk.{Chunk}
use Rattle.vl_session.specs.declared.syslog_intake.Counts.{Counts}
use Rattle.vl_session.specs.declared.syslog_report.SyslogEnd.{SyslogEnd}
use Rattle.vl_session.specs.declared.syslog_report.SyslogEnd.TheVariants as ends
use Rattle.vl_session.specs.declared.syslog_report.SyslogReport.{SyslogReport}

-- what a fault of the desk is to the session
abbrev pub end_of_insert : InsertFault → SyslogEnd
end_of_insert (desk.Full held) = ends.Full held
end_of_insert desk.Spent = ends.Spent
end_of_insert desk.Memory = ends.Memory

-- what a fault of the frames is to it
abbrev pub end_of_frame : FrameFault → SyslogEnd
end_of_frame (faults.BadLength at) = ends.BadFrame (faults.BadLength at)
end_of_frame (faults.TooLong at) = ends.BadFrame (faults.TooLong at)
end_of_frame (faults.Cut at) = ends.BadFrame (faults.Cut at)
end_of_frame (faults.Ended first at) = ends.BadFrame (faults.Ended first at)
end_of_frame faults.Memory = ends.Memory

-- ---- messages

-- These messages, which came in at that moment, begin with some that have these outcomes.
abbrev pub BeginWith : ℕ → List (List ℕ) → List (Option Row) → Type 0
BeginWith now messages outcomes = AllZip (IsMessageOutcome now) (take (length outcomes) messages) outcomes

-- The rows of the messages from one place to another.
pub record IsChunk (now : ℕ) (messages : List (List ℕ)) (start : ℕ) (chunk : Chunk) : Type 0 where
  pub outcomes : List (Option Row)
  pub given : BeginWith now (drop start messages) outcomes
  pub end_is : chunk.end ≡ start + length outcomes
  pub rows : chunk.rows.items ≡ message_rows outcomes

-- what prevents rows that are one batch
abbrev pub HoldsUp : List Row → Seen → SyslogEnd → Type 0
HoldsUp rows seen ends.Closed = ⊥
HoldsUp rows seen ends.Limit = ⊥
HoldsUp rows seen ends.SourceFault = ⊥
HoldsUp rows seen (ends.BadFrame fault) = ⊥
HoldsUp rows seen (ends.Full held) =
    (0 < length rows) × (held ≡ held_limit) × IsFull seen
HoldsUp rows seen ends.Spent =
    (0 < length rows) × (IsFull seen → ⊥) × HasLastNumber seen
HoldsUp rows seen ends.Memory = Unit {0}

-- The first of these messages were taken up, and have these outcomes.
pub record TakesUp (caller : Caller) (now : ℕ) (messages : List (List ℕ)) (old new : Seen) (before after : Counts)
    (outcomes : List (Option Row)) (batches : List Batch) : Type 0 where
  pub given : BeginWith now messages outcomes
  pub cut : AreBatches (message_rows outcomes) batches
  pub full : length outcomes < length messages → length (message_rows outcomes) ≡ batch_rows * length batches
  pub taken : TakesAll caller old batches new
  pub accepted : after.accepted ≡ before.accepted + length (message_rows outcomes)
  pub refused : after.refused ≡ before.refused + count_by is_none outcomes

-- Why no more of them were.
abbrev pub StopsAt : ℕ → List (List ℕ) → List (Option Row) → Seen → SyslogEnd → Type 0
StopsAt now messages outcomes seen end =
    (later : List (Option Row)) × BeginWith now (drop (length outcomes) messages) later
    × HoldsUp (message_rows later) seen end

-- Some of these messages were taken up, but not all, and this is what the end did after that.
pub record TakesSome (caller : Caller) (now : ℕ) (messages : List (List ℕ)) (old new : Seen) (before after : Counts)
    (outcomes : List (Option Row)) (batches : List Batch) (end : SyslogEnd) : Type 0 where
  pub mid : Seen
  pub takes : TakesUp caller now messages old mid before after outcomes batches
  pub has : Has caller mid new (end_effect end)
  pub stops : StopsAt now messages outcomes new end
  pub fewer : length outcomes < length messages

-- ---- reads

-- The source gave a piece, with these messages and this rest.
pub record Feeds (fed piece : List ℕ) (source : Change) (messages : List (List ℕ)) (rest : List ℕ) : Type 0 where
  pub gave : Gave source piece
  pub some : 0 < length piece
  pub few : length piece ≤ read_limit
  pub within : length (fed ++ piece) ≤ session_limit
  pub completes : Completes fed piece [] messages rest

-- the result of a read after these bytes, and why the session ends after its messages, if it does
abbrev pub Comes : List ℕ → Change → Framing → Framing → List (List ℕ) → ℕ → Option SyslogEnd → Type 0
Comes fed source old new messages taken None =
    (piece : List ℕ) × Feeds fed piece source messages new.rest × HasTaken new (fed ++ piece)
    × (length (fed ++ piece) ≡ taken) × (taken < session_limit)
Comes fed source old new messages taken (Some ends.Closed) =
    Gave source [] × IsSpent source × Ends old [] messages
Comes fed source old new messages taken (Some ends.Limit) =
    (piece : List ℕ) × Feeds fed piece source messages new.rest × HasTaken new (fed ++ piece)
    × (length (fed ++ piece) ≡ session_limit)
Comes fed source old new messages taken (Some ends.SourceFault) =
    Gave source [] × HasFailed source × (messages ≡ [])
Comes fed source old new messages taken (Some (ends.BadFrame (faults.BadLength at))) =
    (piece : List ℕ) × (rest : List ℕ) × Feeds fed piece source messages rest
    × IsBadFrame source (fed ++ piece) rest (faults.BadLength at)
Comes fed source old new messages taken (Some (ends.BadFrame (faults.TooLong at))) =
    (piece : List ℕ) × (rest : List ℕ) × Feeds fed piece source messages rest
    × IsBadFrame source (fed ++ piece) rest (faults.TooLong at)
Comes fed source old new messages taken (Some (ends.BadFrame (faults.Cut at))) =
    Gave source [] × IsBadFrame source fed old.rest (faults.Cut at) × (messages ≡ [])
Comes fed source old new messages taken (Some (ends.BadFrame (faults.Ended first at))) = ⊥
Comes fed source old new messages taken (Some (ends.BadFrame faults.Memory)) = ⊥
Comes fed source old new messages taken (Some (ends.Full held)) = ⊥
Comes fed source old new messages taken (Some ends.Spent) = ⊥
Comes fed source old new messages taken (Some ends.Memory) =
    (piece : List ℕ) × Gave source piece × (length piece ≤ read_limit)
    × (length (fed ++ piece) ≤ session_limit) × (messages ≡ [])

-- the report
abbrev pub report_of : Counts → SyslogEnd → SyslogReport
report_of counts end = record { accepted = counts.accepted; refused = counts.refused; end = end }
