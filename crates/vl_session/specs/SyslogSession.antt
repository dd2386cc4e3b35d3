-- One session of syslog: the result of a stream of messages (RFC 5424, in the frames of RFC 6587).
use Rattle.std.specs.Prelude.{◌≡◌, ◌⊎◌, ℕ, ◌*◌, ◌<◌, ◌≤◌, pos, true, false, List, [], ◌∷◌, ◌++◌}
use Rattle.std.specs.Prelude.{length, take, drop, flat_map, count_by, Option, None, Some, is_none}
use Rattle.std.specs.List.{AllByRecursion, AllZip}
use Rattle.vl_io.specs.Change.{Change, Gave, HasFailed, IsSpent}
use Rattle.log_model.specs.Core.{held_limit}
use Rattle.log_model.specs.Row.{Batch, Row}
use Rattle.syslog_in.specs.Framer.{place_in}
use Rattle.syslog_in.specs.Framing.{AreFrames, CanGoOn, HasBadLength, IsTooLong, begins_length, unless_empty}
use Rattle.syslog_in.specs.declared.fault.FrameFault.{FrameFault}
use Rattle.syslog_in.specs.declared.fault.FrameFault.TheVariants as faults
use Rattle.ingest_row.specs.Syslog.{IsRowOfSyslog}
use Rattle.log_desk.specs.Seen.{Caller, Seen}
use Rattle.vl_session.specs.Seen.{Effect, Has, HasLastNumber, IsFull, Takes, asks, looks, nothing}
use Rattle.vl_session.specs.Turns.{GaveMoments}
use Rattle.vl_session.specs.declared.syslog_report.SyslogEnd.{SyslogEnd}
use Rattle.vl_session.specs.declared.syslog_report.SyslogEnd.TheVariants as ends
use Rattle.vl_session.specs.declared.syslog_report.SyslogReport.{SyslogReport}

-- the most bytes of one session
abbrev pub session_limit : ℕ
session_limit = 268_435_456

-- the most bytes of one read
abbrev pub read_limit : ℕ
read_limit = 65_536

-- the most rows of one batch
abbrev pub batch_rows : ℕ
batch_rows = 256

-- ---- messages, rows and batches

-- A message that came in at this moment has this row, or it has none.
abbrev pub IsMessageOutcome : ℕ → List ℕ → Option Row → Type 0
IsMessageOutcome now message (Some row) = IsRowOfSyslog (pos now) message row
IsMessageOutcome now message None = (row : Row) → IsRowOfSyslog (pos now) message row → ⊥

-- the rows of the readable messages
abbrev pub message_rows : List (Option Row) → List Row
message_rows [] = []
message_rows (Some row ∷ outcomes) = row ∷ message_rows outcomes
message_rows (None ∷ outcomes) = message_rows outcomes

-- The rows in batches of 256, of which the last may have fewer.
abbrev pub AreBatches : List Row → List Batch → Type 0
AreBatches rows [] = rows ≡ []
AreBatches rows (batch ∷ batches) =
    (0 < length batch) × (batch ≡ take batch_rows rows) × AreBatches (drop batch_rows rows) batches

-- These batches were accepted, one after another. Entries of others may lie between them.
abbrev pub TakesAll : Caller → Seen → List Batch → Seen → Type 0
TakesAll caller old [] new = new ≡ old
TakesAll caller old (batch ∷ batches) new =
    (next : Seen) × Takes caller old next batch × TakesAll caller next batches new

-- ---- reads

-- One read of the source.
pub record Read : Type 0 where
  -- the bytes that it gave; none where it said that the input ended
  pub bytes : List ℕ
  -- the messages that it completed
  pub messages : List (List ℕ)
  -- when that was, which is asked only where there are any
  pub now : ℕ
  -- the rows of those that were taken up, from the first on
  pub outcomes : List (Option Row)
  -- the batches of these rows
  pub batches : List Batch

abbrev pub bytes_read : List Read → List ℕ
bytes_read reads = flat_map (λ read. read.bytes) reads

-- the messages that were taken up
abbrev pub taken_up : Read → List (List ℕ)
taken_up read = take (length read.outcomes) read.messages

abbrev pub messages_of : List Read → List (List ℕ)
messages_of reads = flat_map taken_up reads

abbrev pub outcomes_of : List Read → List (Option Row)
outcomes_of reads = flat_map (λ read. read.outcomes) reads

abbrev pub batches_of : List Read → List Batch
batches_of reads = flat_map (λ read. read.batches) reads

-- the moment at which messages came in, if there are any
abbrev pub moment_of : List (List ℕ) → ℕ → List ℕ
moment_of [] now = []
moment_of (message ∷ messages) now = now ∷ []

abbrev pub moments_read : List Read → List ℕ
moments_read reads = flat_map (λ read. moment_of read.messages read.now) reads

-- It gave a piece after these bytes, which completes its messages.
pub record GivesPiece (fed : List ℕ) (read : Read) : Type 0 where
  pub some : 0 < length read.bytes
  pub few : length read.bytes ≤ read_limit
  pub before : List (List ℕ)
  pub left : List ℕ
  pub rest : List ℕ
  pub is_before : AreFrames fed before left
  pub goes_on : CanGoOn left
  pub is_after : AreFrames (fed ++ read.bytes) (before ++ read.messages) rest

-- It said that the input ended after these bytes, which makes a message of the rest, if there is one.
pub record GivesEnd (source : Change) (fed : List ℕ) (read : Read) : Type 0 where
  pub none : read.bytes ≡ []
  pub spent : IsSpent source
  pub before : List (List ℕ)
  pub rest : List ℕ
  pub is_before : AreFrames fed before rest
  pub goes_on : CanGoOn rest
  pub whole : begins_length rest ≡ false
  pub is_last : read.messages ≡ unless_empty rest

-- All its messages were taken up.
abbrev pub IsWhole : Read → Type 0
IsWhole read = length read.outcomes ≡ length read.messages

-- These reads came one after another, after these bytes. None follows the input's end, nor one of which messages were
-- left.
abbrev pub AreReads : Change → List ℕ → List Read → Type 0
AreReads source fed [] = Unit {0}
AreReads source fed (read ∷ reads) =
    (GivesPiece fed read ⊎ (GivesEnd source fed read × (reads ≡ []))) × (0 < length reads → IsWhole read)
    × AreReads source (fed ++ read.bytes) reads

-- what became of the messages of a read
pub record IsTakenUp (read : Read) : Type 0 where
  pub given : AllZip (IsMessageOutcome read.now) (taken_up read) read.outcomes
  pub cut : AreBatches (message_rows read.outcomes) read.batches
  -- Where some were not taken up, those that were end with a batch of 256.
  pub full : length read.outcomes < length read.messages
      → length (message_rows read.outcomes) ≡ batch_rows * length read.batches

-- What became of the messages of these reads, and of what had been seen.
pub record AreTakenUp (caller : Caller) (first last : Seen) (moments_old moments_new : Option (List ℕ))
    (accepted refused : ℕ) (reads : List Read) : Type 0 where
  pub told : GaveMoments moments_old moments_new (moments_read reads)
  pub each : AllByRecursion IsTakenUp reads
  pub taken : TakesAll caller first (batches_of reads) last
  pub accepted_is : accepted ≡ length (message_rows (outcomes_of reads))
  pub refused_is : refused ≡ count_by is_none (outcomes_of reads)

-- ---- ends

-- These are the messages of all whole frames, and more bytes can make the rest a frame.
pub record AreAll (bytes : List ℕ) (messages : List (List ℕ)) (rest : List ℕ) : Type 0 where
  pub frames : AreFrames bytes messages rest
  pub goes_on : CanGoOn rest

-- With more, these are the messages of all whole frames.
pub record IsFront (bytes : List ℕ) (messages : List (List ℕ)) : Type 0 where
  pub later : List (List ℕ)
  pub rest : List ℕ
  pub frames : AreFrames bytes (messages ++ later) rest

-- Why the rest of these bytes begins with no whole frame, and never will.
abbrev pub IsBadFrame : Change → List ℕ → List ℕ → FrameFault → Type 0
IsBadFrame source bytes rest (faults.BadLength at) =
    (behind : ℕ) × HasBadLength rest behind × (at ≡ place_in bytes rest behind)
IsBadFrame source bytes rest (faults.TooLong at) = IsTooLong rest × (at ≡ place_in bytes rest 0)
IsBadFrame source bytes rest (faults.Cut at) =
    IsSpent source × CanGoOn rest × (begins_length rest ≡ true) × (at ≡ place_in bytes rest 0)
    × (length bytes < session_limit)
IsBadFrame source bytes rest (faults.Ended first at) = ⊥
IsBadFrame source bytes rest faults.Memory = ⊥

-- After the messages that were taken up, some of the last read are the next batch, which has a row.
pub record IsHeldUp (reads : List Read) : Type 0 where
  pub front : List Read
  pub read : Read
  pub is_last : reads ≡ front ++ read ∷ []
  pub outcomes : List (Option Row)
  pub given : AllZip (IsMessageOutcome read.now)
      (take (length outcomes) (drop (length read.outcomes) read.messages)) outcomes
  pub some : 0 < length (message_rows outcomes)

-- what the end did to what had been seen: where a batch is refused there was a turn
abbrev pub end_effect : SyslogEnd → Effect
end_effect ends.Closed = nothing
end_effect ends.Limit = nothing
end_effect ends.SourceFault = nothing
end_effect (ends.BadFrame fault) = nothing
end_effect (ends.Full held) = looks
end_effect ends.Spent = looks
end_effect ends.Memory = asks

-- Why the session ends, where its source gave these bytes, these messages were taken up, and `last` has been seen.
abbrev pub EndsStream : Change → List Read → List ℕ → Seen → SyslogEnd → Type 0
EndsStream source reads bytes last ends.Closed =
    (whole : List (List ℕ)) × (rest : List ℕ) × AreAll bytes whole rest × (begins_length rest ≡ false)
    × (messages_of reads ≡ whole ++ unless_empty rest) × IsSpent source × (length bytes < session_limit)
EndsStream source reads bytes last ends.Limit =
    (rest : List ℕ) × AreAll bytes (messages_of reads) rest × (length bytes ≡ session_limit)
EndsStream source reads bytes last ends.SourceFault =
    (rest : List ℕ) × AreAll bytes (messages_of reads) rest × HasFailed source × (length bytes < session_limit)
EndsStream source reads bytes last (ends.BadFrame fault) =
    (rest : List ℕ) × AreFrames bytes (messages_of reads) rest × IsBadFrame source bytes rest fault
EndsStream source reads bytes last (ends.Full held) =
    IsFront bytes (messages_of reads) × IsHeldUp reads × (held ≡ held_limit) × IsFull last
EndsStream source reads bytes last ends.Spent =
    IsFront bytes (messages_of reads) × IsHeldUp reads × (IsFull last → ⊥) × HasLastNumber last
EndsStream source reads bytes last ends.Memory = IsFront bytes (messages_of reads)

-- If memory ran out, the last piece that the source gave may not have been looked at.
abbrev pub IsLeft : SyslogEnd → List ℕ → Type 0
IsLeft ends.Closed left = left ≡ []
IsLeft ends.Limit left = left ≡ []
IsLeft ends.SourceFault left = left ≡ []
IsLeft (ends.BadFrame fault) left = left ≡ []
IsLeft (ends.Full held) left = left ≡ []
IsLeft ends.Spent left = left ≡ []
IsLeft ends.Memory left = length left ≤ read_limit

-- One session of a caller that had seen `first` before, and `last` then.
pub record IsSyslogSession (caller : Caller) (first last : Seen) (source : Change)
    (moments_old moments_new : Option (List ℕ)) (report : SyslogReport) : Type 0 where
  pub reads : List Read
  pub left : List ℕ
  pub unread : IsLeft report.end left
  pub gave : Gave source (bytes_read reads ++ left)
  pub few : length (bytes_read reads ++ left) ≤ session_limit
  pub are_reads : AreReads source [] reads
  pub mid : Seen
  pub taken : AreTakenUp caller first mid moments_old moments_new report.accepted report.refused reads
  -- after its last batch
  pub has : Has caller mid last (end_effect report.end)
  pub ended : EndsStream source reads (bytes_read reads ++ left) last report.end
