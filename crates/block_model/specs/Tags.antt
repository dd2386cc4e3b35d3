-- Tags, by which texts are told apart.
use Rattle.std.specs.Prelude.{◌≡◌, ℕ, ◌+◌, ◌*◌, ◌-◌, ◌/◌, ◌%◌, ◌^◌, ◌<◌, List, [], ◌∷◌, bit_xor, length}
use Rattle.std.specs.Prelude.{Bool, false, nat_le, nat_lt, slice_index, slice_index_or, if◌then◌else◌}
use Rattle.std.specs.Int.{w32, w64, from_le_bytes, rotate_left}

-- the four bytes at this place
abbrev pub four_at : List ℕ → ℕ → ℕ
four_at bytes at =
    from_le_bytes w32 (slice_index bytes at ∷ slice_index bytes (at + 1) ∷ slice_index bytes (at + 2)
    ∷ slice_index bytes (at + 3) ∷ [])

-- the eight bytes at this place
abbrev pub eight_at : List ℕ → ℕ → ℕ
eight_at bytes at =
    from_le_bytes w64 (slice_index bytes at ∷ slice_index bytes (at + 1) ∷ slice_index bytes (at + 2)
    ∷ slice_index bytes (at + 3) ∷ slice_index bytes (at + 4) ∷ slice_index bytes (at + 5) ∷ slice_index bytes (at + 6)
    ∷ slice_index bytes (at + 7) ∷ [])

-- of fewer than four bytes the first, the middle one and the last
abbrev pub tag_of_few : List ℕ → ℕ
tag_of_few bytes =
    if nat_lt 0 (length bytes)
    then slice_index bytes 0 * 65536 + slice_index bytes (length bytes / 2) * 256 + slice_index bytes (length bytes - 1)
    else 0

-- Of fewer than eight bytes, all are in it, and with the length it tells the text. Of eight or more it is a mixture of
-- the first eight, the middle eight and the last eight.
unfoldable pub tag_of : List ℕ → ℕ
tag_of bytes =
    if nat_le 8 (length bytes)
    then bit_xor (bit_xor (rotate_left w64 (eight_at bytes 0) 29)
    (rotate_left w64 (eight_at bytes (length bytes / 2 - 4)) 47))
    (eight_at bytes (length bytes - 8))
    else (if nat_le 4 (length bytes)
    then four_at bytes 0 * 2 ^ 32 + four_at bytes (length bytes - 4)
    else tag_of_few bytes)

-- the slot, of 512, of the texts with this tag and of this length: the highest bits of a product, which depend on all
-- bits of its factors
abbrev pub slot_at : ℕ → ℕ → ℕ
slot_at tag len = bit_xor tag len * 11400714819323198485 % 2 ^ 64 / 2 ^ 55

abbrev pub slot_of : List ℕ → ℕ
slot_of text = slot_at (tag_of text) (length text)

-- whether the slot of the text is taken
abbrev pub has_slot : List Bool → List ℕ → Bool
has_slot taken text = slice_index_or taken (slot_of text) false

-- They are bytes.
abbrev pub AreBytes : List ℕ → Type 0
AreBytes bytes = (i : ℕ) → slice_index bytes i < 256

-- The tag is that of the text, which consists of bytes.
pub record IsTagged (it : ℕ) (text : List ℕ) : Type 0 where
  pub tag : it ≡ tag_of text
  pub bytes : AreBytes text
