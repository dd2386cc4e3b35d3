-- A Bloom filter: which words may be there.
use Rattle.std.specs.Prelude.{ℕ, ◌+◌, ◌*◌, ◌/◌, ◌%◌, ◌^◌, ◌&&◌, ◌==◌, Bool, List, length, nat_le, nat_lt}
use Rattle.std.specs.Prelude.{if◌then◌else◌, replicate}
use Rattle.std.specs.List.{flat_map}
use Rattle.std.specs.Int.{w64, to_le_bytes}
use Rattle.token_bloom.specs.Bits.{bit_count, fnv, places, has_bits, with_bits}

-- how many words of 64 bits make up 16 bits for each token, rounded up
abbrev pub words_for : ℕ → ℕ
words_for tokens = (16 * tokens + 63) / 64

abbrev pub empty_filter : ℕ → List ℕ
empty_filter tokens = replicate (words_for tokens) 0

-- where there is any bit, all six bits of the hash are set
abbrev pub has_hash : List ℕ → ℕ → Bool
has_hash filter hash = nat_lt 0 (length filter) && has_bits filter (places (bit_count filter) hash)

-- the word may be there
abbrev pub may_have : List ℕ → List ℕ → Bool
may_have filter word = has_hash filter (fnv word)

-- with all six bits of the hash set, where there is any bit
abbrev pub with_hash : List ℕ → ℕ → List ℕ
with_hash filter hash = if length filter == 0 then filter else with_bits filter (places (bit_count filter) hash)

abbrev pub with_word : List ℕ → List ℕ → List ℕ
with_word filter word = with_hash filter (fnv word)

-- the words of 64 bits, each with its least byte first
abbrev pub filter_bytes : List ℕ → List ℕ
filter_bytes filter = flat_map (to_le_bytes w64) filter

-- no filter has more bytes
abbrev pub most_bytes : ℕ
most_bytes = 2 ^ 33

abbrev pub is_length : ℕ → Bool
is_length bytes = (bytes % 8 == 0) && nat_le bytes most_bytes
