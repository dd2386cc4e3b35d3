-- Filters by the number of their words of 64 bits.
use Rattle.std.proofs.Common.{◌≡◌, ℕ, ◌<◌, false, List, [], ◌∷◌, length, get_or, refl, sym, ap, ◌∙◌}
use Rattle.std.proofs.Common.{arith}
use Rattle.std.specs.Prelude.{replicate}
use Rattle.std.proofs.lemmas.Bool.{le-ltb, lt-ltb}
use Rattle.std.proofs.lemmas.List.{nil_from_length}
use Rattle.token_bloom.specs.Bits.{bit_count, has_bits, places, with_bits}
use Rattle.token_bloom.specs.Filter.{has_hash, with_hash}
use Rattle.token_bloom.proofs.Added.{bits-len, hash_filled}

pub no_word : (ws : List ℕ) → length ws ≡ 0 → ws ≡ []
no_word ws e = nil_from_length ws e

pub one_word : (ws : List ℕ) → length ws ≡ 1 → ws ≡ get_or ws 0 0 ∷ []
one_word [] e = absurd (omega (arith, e))
one_word (w ∷ []) e = refl
one_word (w ∷ v ∷ ws) e = absurd (omega (arith, e))

abbrev zeros : ℕ → List ℕ
zeros n = replicate n 0

pub no_empty : (n : ℕ) → n ≡ 0 → ◌≡◌ {A = List ℕ} [] (replicate n 0)
no_empty n e = ap zeros (sym e)

pub one_empty : (n : ℕ) → n ≡ 1 → ◌≡◌ {A = List ℕ} (0 ∷ []) (replicate n 0)
one_empty n e = ap zeros (sym e)

pub filled_with : (ws : List ℕ) (hash : ℕ) → 0 < length ws
    → with_hash ws hash ≡ with_bits ws (places (bit_count ws) hash)
filled_with ws hash lt = hash_filled ws hash lt

pub hash_len : (ws : List ℕ) (hash : ℕ) → 0 < length ws → length (with_hash ws hash) ≡ length ws
hash_len ws hash lt = ap length (hash_filled ws hash lt) ∙ bits-len ws (places (bit_count ws) hash)

pub none_has : (ws : List ℕ) (hash : ℕ) → length ws ≡ 0 → has_hash ws hash ≡ false
none_has ws hash e = rw (le-ltb 0 (length ws) (omega (arith, e))) refl

pub filled_has : (ws : List ℕ) (hash : ℕ) → 0 < length ws
    → has_hash ws hash ≡ has_bits ws (places (bit_count ws) hash)
filled_has ws hash lt = rw (lt-ltb 0 (length ws) lt) refl
