-- The bits of a Bloom filter, in words of 64 bits: bit b is bit b mod 64 of word b div 64.
use Rattle.std.specs.Prelude.{ℕ, ◌+◌, ◌*◌, ◌/◌, ◌%◌, ◌^◌, Bool, true, ◌&&◌, ◌==◌, List, [], ◌∷◌, length}
use Rattle.std.specs.Prelude.{slice_index, slice_set, bit_or, bit_xor}
use Rattle.std.specs.List.{fold}
use Rattle.std.specs.Int.{w64, rotate_right, bit_at}

-- FNV-1a of 64 bits (Fowler, Noll and Vo)
abbrev pub fnv_step : ℕ → ℕ → ℕ
fnv_step hash byte = (bit_xor hash byte * 1099511628211) % 2 ^ 64

abbrev pub fnv : List ℕ → ℕ
fnv word = fold fnv_step 14695981039346656037 word

-- how far the next bit of a word is from the one before
abbrev pub stride : ℕ → ℕ
stride hash = bit_or (rotate_right w64 hash 17) 1

abbrev pub bit_count : List ℕ → ℕ
bit_count filter = 64 * length filter

-- the six bits of a word: its hash plus i strides, in 64 bits, and then modulo the number of bits
abbrev pub place : ℕ → ℕ → ℕ → ℕ
place bits hash i = (hash + i * stride hash) % 2 ^ 64 % bits

abbrev pub places : ℕ → ℕ → List ℕ
places bits hash =
    place bits hash 0 ∷ place bits hash 1 ∷ place bits hash 2 ∷ place bits hash 3 ∷ place bits hash 4
    ∷ place bits hash 5 ∷ []

abbrev pub has_bit : List ℕ → ℕ → Bool
has_bit filter b = bit_at (slice_index filter (b / 64)) (b % 64) == 1

abbrev pub with_bit : List ℕ → ℕ → List ℕ
with_bit filter b = slice_set filter (b / 64) (bit_or (slice_index filter (b / 64)) (1 * 2 ^ (b % 64) % 2 ^ 64))

abbrev pub has_bits : List ℕ → List ℕ → Bool
has_bits filter [] = true
has_bits filter (b ∷ bs) = has_bit filter b && has_bits filter bs

abbrev pub with_bits : List ℕ → List ℕ → List ℕ
with_bits filter [] = filter
with_bits filter (b ∷ bs) = with_bits (with_bit filter b) bs
