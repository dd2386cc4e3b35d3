-- Who a caller of the desk is, what it has seen of the history, and how that grows.
use Rattle.std.specs.Prelude.{◌≡◌, ℕ, ◌<◌, ◌≤◌, Bool, true, List, [], ◌∷◌, ◌++◌, length, Some}
use Rattle.std.specs.List.{AllByRecursion}
use Rattle.log_model.specs.History.{Entry, History, IsBatchEntry, entry_maker}
use Rattle.log_model.specs.Row.{Batch}
use Rattle.turn_lock.specs.Entries.{is_among}
use Rattle.turn_lock.specs.declared.view.TurnEnd.{TurnEnd}
use Rattle.turn_lock.specs.Passes.{LockId, PassState}
use Rattle.turn_lock.specs.Totals.{times}
use Rattle.log_core.specs.Entries.{seen_history}
use Rattle.log_core.specs.declared.entries.EntryRows.{EntryRows}

-- Who calls: what stays of a pass, whatever its caller asks for, as long as it is not split or joined.
pub record Caller : Type 0 where
  -- whose pass it is, which says how many passes there may be
  pub lock : LockId
  -- the numbers under which it makes entries
  pub numbers : List ℕ
  pub seen_drawn : ℕ
  pub draws : ℕ
  -- 1 where it may settle, and else 0
  pub may_settle : ℕ

abbrev pub caller_of : PassState EntryRows → Caller
caller_of p = record {
  lock = p.lock;
  numbers = p.numbers;
  seen_drawn = p.seen_drawn;
  draws = p.draws;
  may_settle = p.may_settle;
}

-- a front of the history, how many of its batches were settled, and the turns that the caller left, oldest first
pub record Seen : Type 0 where
  pub history : History
  pub settled : ℕ
  pub turns : List TurnEnd

abbrev pub seen_of : PassState EntryRows → Seen
seen_of p = record { history = seen_history p.seen; settled = p.mark; turns = p.turns }

-- a turn that ended when this was seen
abbrev pub turn_of : Seen → TurnEnd
turn_of seen = record { count = length seen.history; mark = seen.settled }

-- The caller left one turn more, in which it saw all that it has seen now.
abbrev pub TakesTurn : Seen → Seen → Type 0
TakesTurn old new = new.turns ≡ old.turns ++ turn_of new ∷ []

-- The caller made the entry.
abbrev pub is_own : Caller → Entry → Bool
is_own caller entry = is_among caller.numbers (entry_maker entry)

-- Another caller made it.
pub record IsStrange (caller : Caller) (entry : Entry) : Type 0 where
  pub number : ℕ
  pub maker : entry_maker entry ≡ Some number
  pub below : number < caller.lock.passes
  pub other : times number caller.numbers ≡ 0

-- Only others may have added entries. The settled number is not lower, and the same where the caller may settle.
pub record Follows (caller : Caller) (old new : Seen) : Type 0 where
  pub others : History
  pub longer : new.history ≡ old.history ++ others
  pub strange : AllByRecursion (IsStrange caller) others
  pub settled : old.settled ≤ new.settled
  pub stays : 0 < caller.may_settle → new.settled ≡ old.settled
  pub more_turns : List TurnEnd
  pub turns : new.turns ≡ old.turns ++ more_turns

-- After such entries there is one more, the last: this batch, which the caller made.
pub record Gains (caller : Caller) (old new : Seen) (batch : Batch) : Type 0 where
  pub others : History
  pub entry : Entry
  pub longer : new.history ≡ old.history ++ (others ++ entry ∷ [])
  pub strange : AllByRecursion (IsStrange caller) others
  pub own : is_own caller entry ≡ true
  pub rows : IsBatchEntry entry batch
  pub settled : old.settled ≤ new.settled
  pub stays : 0 < caller.may_settle → new.settled ≡ old.settled
  pub turn : TakesTurn old new
