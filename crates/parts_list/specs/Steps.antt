-- The formats of a slot, one step after another.
use Rattle.std.specs.Prelude.{ℕ, List, [], ◌∷◌, Result}
use Rattle.std.specs.Int.{w16, w32, w64}
use Rattle.byte_format.specs.Format.{value, many, front, ◌>>=◌}
use Rattle.byte_format.specs.Items.{number, number_that}
use Rattle.parts_list.specs.declared.list.Entry.{Entry}
use Rattle.parts_list.specs.declared.list.List.{List as Listing}
use Rattle.parts_list.specs.Format.{these_bytes, magic, is_version, entry}
use Rattle.parts_list.specs.Listing.{is_generation, is_front, is_next_file, is_file_below}

unfoldable pub entry_steps : ℕ → List ℕ → Result (Entry × List ℕ) ℕ
entry_steps next bytes = do
  day ← front (number w32) bytes
  file ← front (number_that w64 (is_file_below next)) day.1
  size ← front (number w64) file.1
  front (value (record { day = day.0; file = file.0; bytes = size.0 })) size.1

unfoldable pub counted_steps : ℕ → List ℕ → Result (List Entry × List ℕ) ℕ
counted_steps next bytes = do
  count ← front (number w32) bytes
  front (many count.0 (entry next)) count.1

unfoldable pub listing_steps : List ℕ → Result (Listing × List ℕ) ℕ
listing_steps bytes = do
  generation ← front (number_that w64 is_generation) bytes
  batches ← front (number_that w64 is_front) generation.1
  next ← front (number_that w64 is_next_file) batches.1
  entries ← counted_steps next.0 next.1
  front (value (record {
    generation = generation.0;
    front = batches.0;
    next_file = next.0;
    entries = entries.0;
  })) entries.1

unfoldable pub slot_steps : List ℕ → Result (Listing × List ℕ) ℕ
slot_steps bytes = do
  gate ← front (these_bytes (1 ∷ [])) bytes
  name ← front (these_bytes magic) gate.1
  version ← front (number_that w16 is_version) name.1
  listing_steps version.1
