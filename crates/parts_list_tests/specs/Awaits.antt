-- The lists that are written, and a vault that awaits one.
use Rattle.std.specs.Prelude.{◌≡◌, ℕ, List, [], ◌∷◌, Option, Some}
use Rattle.vl_vault.specs.Disk.{Past, content}
use Rattle.parts_list.specs.declared.list.Entry.{Entry}
use Rattle.parts_list.specs.declared.list.List.{List as Listing}
use Rattle.parts_list.specs.Slots.{found_in}
use Rattle.parts_list.specs.Writing.{AreSlotsDurable, next_generation}

-- Nothing is pending in the slots, and the list of this generation comes next.
pub record Awaits (past : Past) (generation : ℕ) : Type 0 where
  pub durable : AreSlotsDurable past
  pub live : Option Listing
  pub found : found_in (content past) ≡ Some live
  pub next : generation ≡ next_generation live

-- the entries of the list of a generation
abbrev pub entries_of : ℕ → List Entry
entries_of generation =
    record { day = 3; file = 7; bytes = generation } ∷ record { day = 19000; file = 2; bytes = 1000000 } ∷ []
