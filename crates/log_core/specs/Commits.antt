-- What a commit of a part does to the shelf.
use Rattle.std.specs.Prelude.{◌≡◌, ℕ, ◌+◌, ◌<◌, List, length}
use Rattle.std.specs.List.Sorted.{IsPermutation}
use Rattle.log_model.specs.Core.{Contents, Goes, Stands, after, commit, count_of, with_part}
use Rattle.log_model.specs.History.{AreRowsOf, Entry, History, Numbered, entry_rows}
use Rattle.log_model.specs.History.{numbered_in, with_batch}
use Rattle.log_model.specs.Row.{Batch}

-- The part is held after the others, under the next number.
abbrev pub HoldsNext : {P : Type 0} → (P → List Numbered) → Contents P → P → Contents P → Type 0
HoldsNext {P} rows old part new =
    (kept : P) × (new ≡ with_part old kept) × (rows kept ≡ with_batch (count_of old + 1) (rows part))

-- These are the rows of a batch, in any order, under this number.
abbrev pub HaveNumber : List Numbered → ℕ → Type 0
HaveNumber rows number = (batch : Batch) × (0 < length batch) × IsPermutation rows (numbered_in number batch)

-- That is an accepted commit of each entry with the rows of the part, whoever made it.
abbrev pub GoesBy : {P : Type 0} → (P → List Numbered) → Contents P → P → Contents P → Type 0
GoesBy rows old part new =
    (entry : Entry) → AreRowsOf (rows part) (entry_rows entry) → Goes rows old (commit entry) new

-- What stood for a history then stands for that history and one more entry, which has the rows of the part.
abbrev pub StandsWith : {P : Type 0} → (P → List Numbered) → Contents P → P → Contents P → Type 0
StandsWith rows old part new =
    (history : History) (entry : Entry) → AreRowsOf (rows part) (entry_rows entry) → Stands rows old history
    → Stands rows new (after history (commit entry))
