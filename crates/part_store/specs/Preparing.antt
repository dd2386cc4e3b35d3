-- What is prepared in memory before the vault is changed.
use Rattle.std.specs.Prelude.{◌≡◌, ℕ, ◌+◌, ◌<◌, ◌≤◌, ◌^◌, List, [], length, map, get_or, None, Some, ⊤}
use Rattle.std.specs.Prelude.{vec_items}
use Rattle.std.specs.Arc.{arc_value}
use Rattle.day_model.specs.Days.{DayRows}
use Rattle.vl_vault.specs.Disk.{Past, content}
use Rattle.vl_vault.specs.Moments.{ChangesFiles, IsDurable}
use Rattle.part_file.specs.Format.{part_bytes, part_writing}
use Rattle.parts_list.specs.Format.{body_of}
use Rattle.part_store.specs.declared.catalog.Catalog.{Catalog}
use Rattle.part_store.specs.declared.catalog.Placed.{Placed}
use Rattle.part_store.specs.declared.catalog.Prepared.{Prepared}
use Rattle.part_store.specs.State.{Listed, StoreState, ArePartsAfter, listed_of}
use Rattle.part_store.specs.Finds.{CanBeWritten, IsCatalog, entry_of}

-- the parts of a catalog
abbrev pub parts_of : Catalog → List Listed
parts_of catalog = map listed_of catalog.parts.items

-- The catalog keeps the rules.
abbrev pub IsWhole : Catalog → Type 0
IsWhole catalog = IsCatalog catalog.list (parts_of catalog)

-- a catalog as a store, of which the vault does not matter
abbrev pub state_of : Catalog → StoreState (Unit {0})
state_of catalog = record {
  vault = tt;
  parts = parts_of catalog;
  generation = catalog.list.generation;
  front = catalog.list.front;
  next_file = catalog.list.next_file;
  halted = None;
}

-- the part of an entry
abbrev pub placed_part : Placed → Listed
placed_part placed =
    record { day = placed.entry.day; file = placed.entry.file; rows = arc_value placed.part.now }

-- The entry says how long the part's file is, and the part can be written.
pub record IsPlaced (placed : Placed) : Type 0 where
  pub size : placed.entry ≡ entry_of (placed_part placed)
  pub written : CanBeWritten (placed_part placed)

-- the rows of the part have a spelling, of which the length can be written
pub record IsSpelled (part : DayRows) : Type 0 where
  pub spelling : part_writing part.1 ≡ Some (part_bytes part.1)
  pub size : length (part_bytes part.1) < 2 ^ 64

-- the spelling of each part
abbrev pub files_of : List DayRows → List (List ℕ)
files_of parts = map (λ (part : DayRows). part_bytes part.1) parts

-- what replaces a catalog
pub record IsPrepared (old : List ℕ) (new : List DayRows) (front : ℕ) (before : Catalog)
    (next : Prepared) : Type 0 where
  pub whole : IsWhole next.catalog
  pub after : ArePartsAfter old new (state_of before) (parts_of next.catalog)
  pub generation : next.catalog.list.generation ≡ before.list.generation + 1
  pub front_is : next.catalog.list.front ≡ front
  pub next_file : next.catalog.list.next_file ≡ before.list.next_file + length new
  pub body : next.body.items ≡ body_of next.catalog.list
  pub files : map vec_items next.files.items ≡ files_of new

-- Since `old` only these files changed.
abbrev pub ChangesOnly : (ℕ → Type 0) → Past → Past → Type 0
ChangesOnly Touched old past = ChangesFiles Touched (λ image. ⊤) old past

-- one of so many files, from the first one on
abbrev pub IsNewFile : ℕ → ℕ → ℕ → Type 0
IsNewFile first count file = (first ≤ file) × (file < first + count)

-- The files from the first one on have these contents, and nothing of them is pending.
abbrev pub HaveContents : ℕ → List (List ℕ) → Past → Type 0
HaveContents first contents past =
    (i : ℕ) → i < length contents
    → IsDurable past (first + i) × (content past (first + i) ≡ get_or contents i [])
