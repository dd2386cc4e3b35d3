-- What serving a request does to what its caller has seen of the log.
use Rattle.std.specs.Prelude.{◌≡◌, ℕ, ◌+◌, ◌≤◌, List, [], ◌∷◌, length}
use Rattle.log_model.specs.Core.{held_limit}
use Rattle.log_model.specs.Row.{Batch, Row}
use Rattle.log_desk.specs.Faults.{HasRoom as HasRoomFor, IsFull as IsFullAt, Refuses, last_number}
use Rattle.log_desk.specs.Seen.{Caller, Follows, Gains, Seen, TakesTurn}
use Rattle.log_desk.specs.declared.fault.InsertFault.{InsertFault}
use Rattle.log_desk.specs.declared.fault.InsertFault.TheVariants.{Full, Spent, Memory}

pub data Effect : Type 0 where
  -- The log is not asked.
  nothing : Effect
  -- It may have been looked at.
  asks : Effect
  -- It is looked at in a turn, which shows all of its history.
  looks : Effect
  -- This batch is added, and the history up to it is then seen.
  adds : Batch → Effect

-- the batch that it adds
abbrev pub added : Effect → List Batch
added nothing = []
added asks = []
added looks = []
added (adds batch) = batch ∷ []

-- how many turns it takes at least
abbrev pub desk_turns : Effect → ℕ
desk_turns nothing = 0
desk_turns asks = 0
desk_turns looks = 1
desk_turns (adds batch) = 1

-- One turn was taken, in which the caller added nothing, and saw all that it has seen now.
abbrev pub Looks : Caller → Seen → Seen → Type 0
Looks caller old new = Follows caller old new × TakesTurn old new

-- what was seen before such an effect, and after it
abbrev pub Has : Caller → Seen → Seen → Effect → Type 0
Has caller old new nothing = new ≡ old
Has caller old new asks = Follows caller old new
Has caller old new looks = Looks caller old new
Has caller old new (adds batch) = Gains caller old new batch

-- ---- one batch

-- the batches of rows that came together: one of all of them, if there are any
abbrev pub batches_of_rows : List Row → List Batch
batches_of_rows [] = []
batches_of_rows (row ∷ rows) = (row ∷ rows) ∷ []

-- The last batch was added where another might be.
pub record HadRoom (seen : Seen) : Type 0 where
  pub few : length seen.history ≤ seen.settled + held_limit
  pub numbered : length seen.history ≤ last_number

-- Another batch may be inserted: it may wait to be settled, and there is a number for it.
abbrev pub HasRoom : Seen → Type 0
HasRoom seen = HasRoomFor (length seen.history) seen.settled

-- A batch was inserted, for which there was room, and it is the last of what has been seen.
pub record Takes (caller : Caller) (old new : Seen) (batch : Batch) : Type 0 where
  pub gains : Gains caller old new batch
  pub room : HadRoom new

-- as many batches wait to be settled as may
abbrev pub IsFull : Seen → Type 0
IsFull seen = IsFullAt (length seen.history) seen.settled

-- the last batch has the last number that there is
abbrev pub HasLastNumber : Seen → Type 0
HasLastNumber seen = length seen.history ≡ last_number

-- A batch was not inserted, for the cause that the turn showed which was taken. `Memory` may always be returned.
abbrev pub IsRefused : Caller → Seen → Seen → InsertFault → Type 0
IsRefused caller old new (Full held) = Looks caller old new × Refuses (length new.history) new.settled (Full held)
IsRefused caller old new Spent = Looks caller old new × Refuses (length new.history) new.settled Spent
IsRefused caller old new Memory = Follows caller old new
