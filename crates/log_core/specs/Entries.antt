-- The shelf as what a lock keeps: the entries for which it stands, and the history that they are.
use Rattle.std.specs.Prelude.{ℕ, zero, suc, ◌-◌, ◌≤◌, ◌==◌, if◌then◌else◌, List, [], ◌∷◌, length, map, None}
use Rattle.std.proofs.Common.{arith}
use Rattle.std.proofs.lemmas.List.{length-map}
use Rattle.log_model.specs.Core.{Contents, Stands}
use Rattle.log_model.specs.History.{Entry, History, Numbered}
use Rattle.log_model.specs.Row.{Batch, Row}
use Rattle.turn_lock.specs.declared.view.Entry.{Entry as Made}
use Rattle.log_core.specs.declared.entries.EntryRows.{EntryRows}

-- the rows of an entry
abbrev pub batch_of : EntryRows → Batch
batch_of entry = entry.first ∷ entry.others

-- an entry of a lock, as one of the history: the same rows, and the same maker
abbrev pub entry_of : Made EntryRows → Entry
entry_of made = record { first = made.what.first; others = made.what.others; maker = made.maker }

-- The history of what a caller of the lock has seen. Each entry keeps its maker.
abbrev pub seen_history : List (Made EntryRows) → History
seen_history seen = map entry_of seen

-- an entry of which no one is named as the maker
abbrev pub nobodys : EntryRows → Entry
nobodys entry = record { first = entry.first; others = entry.others; maker = None }

-- What is held stands for these entries, whoever made them.
abbrev pub stands_for : {P : Type 0} → (P → List Numbered) → Contents P → List EntryRows → Type 0
stands_for rows held entries = Stands rows held (map nobodys entries)

-- No more of them are settled than there are.
pub within : {P : Type 0} (rows : P → List Numbered) (held : Contents P) (entries : List EntryRows)
    → stands_for rows held entries → held.settled ≤ length entries
within rows held entries stands = let counted = stands.counted in omega (arith, length-map entries nobodys)

-- ---- the newest entry

-- a row of nothing
abbrev pub no_row : Row
no_row = record { moment = 0; labels = []; fields = [] }

-- the row at this place, or a row of nothing
abbrev pub row_at : ℕ → List Numbered → Row
row_at place [] = no_row
row_at place (row ∷ rows) = if row.place == place then row.row else row_at place rows

-- this many rows in the order of their places, from this place on
abbrev pub rows_from : ℕ → ℕ → List Numbered → List Row
rows_from place zero rows = []
rows_from place (suc count) rows = row_at place rows ∷ rows_from (suc place) count rows

-- the entry of the rows of one batch, which may be in any order
abbrev pub entry_rows_of : List Numbered → EntryRows
entry_rows_of rows = record { first = row_at 0 rows; others = rows_from 1 (length rows - 1) rows }

-- the entry of the last part, which is of no rows where there is none
abbrev pub newest_in : {P : Type 0} → (P → List Numbered) → List P → EntryRows
newest_in rows [] = entry_rows_of []
newest_in rows (part ∷ []) = entry_rows_of (rows part)
newest_in rows (part ∷ next ∷ parts) = newest_in rows (next ∷ parts)
