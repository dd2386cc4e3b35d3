-- The bytes of a slot, as a format. A second version of the format adds an item after the front.
use Rattle.std.specs.Prelude.{ℕ, ◌==◌, Bool, List, [], ◌∷◌, ◌++◌, length, bytes_eq, codes, Option, Some, None, Result}
use Rattle.std.specs.Prelude.{if◌then◌else◌}
use Rattle.std.specs.Int.{w16, w32, w64, to_le_bytes}
use Rattle.std.specs.List.{flat_map}
use Rattle.byte_format.specs.Format.{Format, value, item, exactly, followed, many}
use Rattle.byte_format.specs.Items.{number, number_that}
use Rattle.byte_format.specs.Spelling.{reading}
use Rattle.parts_list.specs.Listing.{is_generation, is_front, is_next_file, is_file_below, is_list_of}
use Rattle.parts_list.specs.declared.list.Entry.{Entry}
use Rattle.parts_list.specs.declared.list.List.{List as Listing}

-- one item of exactly these bytes
abbrev pub these_bytes : List ℕ → Format (List ℕ)
these_bytes bytes = item (exactly (length bytes)) (λ found. bytes_eq found bytes) value

abbrev pub magic : List ℕ
magic = codes "VLLIST"

abbrev pub is_version : ℕ → Bool
is_version n = n == 1

unfoldable pub entry : ℕ → Format Entry
entry next =
    followed (number w32) (λ day. followed (number_that w64 (is_file_below next)) (λ file.
    followed (number w64) (λ bytes. value (record { day = day; file = file; bytes = bytes }))))

-- the number of entries, and the entries
unfoldable pub counted_entries : ℕ → Format (List Entry)
counted_entries next = followed (number w32) (λ count. many count (entry next))

unfoldable pub listing : Format Listing
listing =
    followed (number_that w64 is_generation) (λ generation. followed (number_that w64 is_front) (λ front.
    followed (number_that w64 is_next_file) (λ next. followed (counted_entries next) (λ entries.
    value (record { generation = generation; front = front; next_file = next; entries = entries })))))

unfoldable pub slot_format : Format Listing
slot_format =
    followed (these_bytes (1 ∷ [])) (λ gate. followed (these_bytes magic) (λ name.
    followed (number_that w16 is_version) (λ version. listing)))

unfoldable pub entry_bytes : Entry → List ℕ
entry_bytes e = to_le_bytes w32 e.day ++ to_le_bytes w64 e.file ++ to_le_bytes w64 e.bytes

unfoldable pub head_bytes : List ℕ
head_bytes = magic ++ to_le_bytes w16 1

unfoldable pub numbers_bytes : Listing → List ℕ
numbers_bytes l = to_le_bytes w64 l.generation ++ to_le_bytes w64 l.front ++ to_le_bytes w64 l.next_file

unfoldable pub parts_bytes : List Entry → List ℕ
parts_bytes entries = to_le_bytes w32 (length entries) ++ flat_map entry_bytes entries

-- what stands after the gate
unfoldable pub body_of : Listing → List ℕ
body_of l = head_bytes ++ numbers_bytes l ++ parts_bytes l.entries

-- the spelling of a list in this slot
abbrev pub slot_writing : ℕ → Listing → Option (List ℕ)
slot_writing slot l = if is_list_of slot l then Some (1 ∷ body_of l) else None

-- the list in this slot, or how many bytes there are from the damaged item on
abbrev pub slot_reading : ℕ → List ℕ → Result Listing ℕ
slot_reading slot bytes = reading slot_format (slot_writing slot) bytes
