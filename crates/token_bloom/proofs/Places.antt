-- The six places of a word, one after another.
use Rattle.std.proofs.Common.{◌≡◌, ℕ, zero, suc, ◌+◌, ◌*◌, ◌%◌, ◌^◌, ◌<◌, ◌≤◌, true, false, List, ◌∷◌}
use Rattle.std.proofs.Common.{drop, refl, ap, arith}
use Rattle.std.proofs.lemmas.List.{drop_all}
use Rattle.token_bloom.specs.Bits.{has_bit, has_bits, place, places, stride, with_bit, with_bits}

next_place : (bits hash i : ℕ) → i < 6
    → drop i (places bits hash) ≡ place bits hash i ∷ drop (i + 1) (places bits hash)
next_place bits hash zero lt = refl
next_place bits hash (suc zero) lt = refl
next_place bits hash (suc (suc zero)) lt = refl
next_place bits hash (suc (suc (suc zero))) lt = refl
next_place bits hash (suc (suc (suc (suc zero)))) lt = refl
next_place bits hash (suc (suc (suc (suc (suc zero))))) lt = refl
next_place bits hash (suc (suc (suc (suc (suc (suc i)))))) lt = absurd (omega (arith, lt))

-- The place at hand is what the sum of the hash and of i strides leaves.
module _ (ws : List ℕ) (bits hash i sum : ℕ) (more : i < 6) (at : sum ≡ (hash + i * stride hash) % 2 ^ 64) where
  pub next_set : has_bit ws (sum % bits) ≡ true
      → has_bits ws (drop i (places bits hash)) ≡ has_bits ws (drop (i + 1) (places bits hash))
  next_set set = rw (next_place bits hash i more, ← at, set) refl

  pub next_clear : has_bit ws (sum % bits) ≡ false → has_bits ws (drop i (places bits hash)) ≡ false
  next_clear clear = rw (next_place bits hash i more, ← at, clear) refl

  pub next_written : with_bits ws (drop i (places bits hash))
      ≡ with_bits (with_bit ws (sum % bits)) (drop (i + 1) (places bits hash))
  next_written = rw at (ap (with_bits ws) (next_place bits hash i more))

pub none_left : (ws : List ℕ) (bits hash i : ℕ) → 6 ≤ i → has_bits ws (drop i (places bits hash)) ≡ true
none_left ws bits hash i past = ap (has_bits ws) (drop_all i (places bits hash) past)

pub ruleset has_steps = (next_set, next_clear, none_left)
