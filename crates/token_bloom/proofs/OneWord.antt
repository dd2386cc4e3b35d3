-- The bits of a filter of one word of 64 bits.
use Rattle.std.proofs.Common.{◌≡◌, ℕ, ◌+◌, ◌*◌, ◌/◌, ◌%◌, ◌^◌, ◌<◌, ◌∷◌, [], drop, refl, ap, ◌∙◌, arith}
use Rattle.std.specs.Prelude.{bit_or}
use Rattle.token_bloom.specs.Bits.{places, stride, with_bit, with_bits}
use Rattle.token_bloom.proofs.Places.{next_written}

one_bit : (word sum : ℕ) → with_bit (word ∷ []) (sum % 64) ≡ bit_or word (1 * 2 ^ (sum % 64) % 2 ^ 64) ∷ []
one_bit word sum =
    let first : sum % 64 / 64 ≡ 0 = omega arith in
    let same : sum % 64 % 64 ≡ sum % 64 = omega arith in
    rw (first, same) refl

pub one_written : (word hash i sum : ℕ) → i < 6 → sum ≡ (hash + i * stride hash) % 2 ^ 64
    → with_bits (word ∷ []) (drop i (places 64 hash))
    ≡ with_bits (bit_or word (1 * 2 ^ (sum % 64) % 2 ^ 64) ∷ []) (drop (i + 1) (places 64 hash))
one_written word hash i sum more at =
    next_written (word ∷ []) 64 hash i sum more at
    ∙ ap (λ ws. with_bits ws (drop (i + 1) (places 64 hash))) (one_bit word sum)
