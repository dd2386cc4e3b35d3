-- What contracts see of a store, and how its parts are replaced.
use Rattle.std.specs.Prelude.{◌≡◌, ◌≢◌, ◌⊎◌, ℕ, suc, ◌+◌, ◌<◌, ◌≤◌, ◌^◌, ◌==◌, Bool, not, List, [], ◌∷◌, ◌++◌}
use Rattle.std.specs.Prelude.{length, map, Option, None}
use Rattle.std.specs.List.{AllByRecursion, filter, list_any}
use Rattle.std.specs.List.Sorted.{IsPermutation}
use Rattle.std.specs.Arc.{arc_value}
use Rattle.std.specs.declared.sync.Arc.{Arc}
use Rattle.log_model.specs.History.{Numbered}
use Rattle.day_model.specs.Days.{DayRows, LieInDay}
use Rattle.parts_list.specs.declared.list.List.{List as Listing}
use Rattle.part_store.specs.declared.store.Stored.{Stored}

-- a part of a store: its day, its file and its rows
pub record Listed : Type 0 where
  pub day : ℕ
  pub file : ℕ
  pub rows : List Numbered

pub record StoreState (V : Type 0) : Type 0 where
  pub vault : V
  -- in order of day and file
  pub parts : List Listed
  -- how many lists were written
  pub generation : ℕ
  -- how many batches the parts hold
  pub front : ℕ
  -- the file that the next part gets
  pub next_file : ℕ
  -- the vault's count of faults when the store halted, if it did
  pub halted : Option ℕ

abbrev pub listed_of : Stored → Listed
listed_of stored = record { day = stored.day; file = stored.file; rows = arc_value stored.part }

abbrev pub as_state : {V : Type 0} → V → List Stored → Listing → Option ℕ → StoreState V
as_state vault parts list halted = record {
  vault = vault;
  parts = map listed_of parts;
  generation = list.generation;
  front = list.front;
  next_file = list.next_file;
  halted = halted;
}

-- a day, and the rows of a part of it
abbrev pub day_part_of : {P : Type 0} → ℕ × Arc (List Numbered) P → DayRows
day_part_of part = (part.0, arc_value part.1)

-- One part comes before another: its day is earlier, or the day is the same and its file is lower.
abbrev pub ComesBefore : Listed → Listed → Type 0
ComesBefore a b = ((a.day < b.day) ⊎ ((a.day ≡ b.day) × (a.file < b.file))) × (a.file ≢ b.file)

-- R holds of each element and each later one
abbrev pub EachPair : {X : Type 0} → (X → X → Type 0) → List X → Type 0
EachPair R [] = Unit {0}
EachPair R (x ∷ xs) = AllByRecursion (R x) xs × EachPair R xs

-- The parts are in order of day and file, and no two have the same file.
abbrev pub AreInOrder : List Listed → Type 0
AreInOrder parts = EachPair ComesBefore parts

-- Files 0 and 1 are the slots of the list, so parts have files from 2 up.
abbrev pub IsFileBelow : ℕ → Listed → Type 0
IsFileBelow next_file part = (2 ≤ part.file) × (part.file < next_file)

-- the rows of the part lie in its day
abbrev pub LiesInDay : Listed → Type 0
LiesInDay part = LieInDay part.day part.rows

-- what the parts of a store keep
pub record AreStored (next_file : ℕ) (parts : List Listed) : Type 0 where
  pub order : AreInOrder parts
  pub files : AllByRecursion (IsFileBelow next_file) parts
  pub days : AllByRecursion LiesInDay parts

abbrev pub is_day : ℕ → Listed → Bool
is_day day part = part.day == day

-- the parts of other files than these
abbrev pub kept : List ℕ → List Listed → List Listed
kept old parts = filter (λ part. not (list_any (λ file. file == part.file) old)) parts

-- the new parts, under the next files
abbrev pub added : ℕ → List DayRows → List Listed
added next [] = []
added next (part ∷ parts) = record { day = part.0; file = next; rows = part.1 } ∷ added (suc next) parts

-- These are the parts of other files than the old ones, and the new parts. The new parts of a day come after its kept
-- ones, in their order.
pub record ArePartsAfter {V : Type 0} (old : List ℕ) (new : List DayRows) (before : StoreState V)
    (parts : List Listed) : Type 0 where
  pub same : IsPermutation parts (kept old before.parts ++ added before.next_file new)
  pub by_day : (day : ℕ) → filter (is_day day) parts
      ≡ filter (is_day day) (kept old before.parts) ++ filter (is_day day) (added before.next_file new)

pub record IsReplaced {V : Type 0} (old : List ℕ) (new : List DayRows) (front : ℕ)
    (before after : StoreState V) : Type 0 where
  pub parts : ArePartsAfter old new before after.parts
  pub generation : after.generation ≡ before.generation + 1
  pub front_is : after.front ≡ front
  pub next_file : after.next_file ≡ before.next_file + length new
  pub halted : after.halted ≡ None

pub record HasSameList {V : Type 0} (before after : StoreState V) : Type 0 where
  pub parts : after.parts ≡ before.parts
  pub generation : after.generation ≡ before.generation
  pub front : after.front ≡ before.front
  pub next_file : after.next_file ≡ before.next_file

-- There is no number for another list or for all new parts, or the list would have 2^32 entries or more.
abbrev pub IsSpent : {V : Type 0} → List ℕ → List DayRows → StoreState V → Type 0
IsSpent old new store =
    (2 ^ 63 ≤ store.generation + 1) ⊎ (2 ^ 63 ≤ store.next_file + length new)
    ⊎ (2 ^ 32 ≤ length (kept old store.parts) + length new)
