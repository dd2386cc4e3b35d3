-- The order in which words are added makes no difference.
use Rattle.std.proofs.Common.{◌≡◌, ℕ, zero, suc, ◌*◌, ◌/◌, ◌%◌, ◌<◌, ◌^◌, List, [], ◌∷◌, length, get_or, max, refl, sym}
use Rattle.std.proofs.Common.{ap, ◌∙◌, arith}
use Rattle.std.specs.Prelude.{slice_set, bit_or}
use Rattle.std.specs.Int.{bit_at}
use Rattle.std.proofs.lemmas.Nat.Bits.{bit_at_or, same_from_bits}
use Rattle.token_bloom.specs.Bits.{with_bit, with_bits, places, bit_count, fnv}
use Rattle.token_bloom.specs.Filter.{with_word}
use Rattle.token_bloom.proofs.Added.{bits-len, filled}

widest-of : (a b c : ℕ) → max (max a b) c ≡ max (max a c) b
widest-of a b c = omega arith

or-swap : (a b c : ℕ) → bit_or (bit_or a b) c ≡ bit_or (bit_or a c) b
or-swap a b c =
    same_from_bits (bit_or (bit_or a b) c) (bit_or (bit_or a c) b) (λ i. bit_at_or (bit_or a b) c i
    ∙ ap (λ (n : ℕ). max n (bit_at c i)) (bit_at_or a b i)
    ∙ widest-of (bit_at a i) (bit_at b i) (bit_at c i)
    ∙ ap (λ (n : ℕ). max n (bit_at b i)) (sym (bit_at_or a c i))
    ∙ sym (bit_at_or (bit_or a c) b i))

abbrev with_mask : List ℕ → ℕ → ℕ → List ℕ
with_mask ws i mask = slice_set ws i (bit_or (get_or ws i 0) mask)

mask-swap : (ws : List ℕ) (i j m n : ℕ) → with_mask (with_mask ws i m) j n ≡ with_mask (with_mask ws j n) i m
mask-swap [] i j m n = refl
mask-swap (w ∷ ws) zero zero m n = ap (λ (x : ℕ). x ∷ ws) (or-swap w m n)
mask-swap (w ∷ ws) zero (suc j) m n = refl
mask-swap (w ∷ ws) (suc i) zero m n = refl
mask-swap (w ∷ ws) (suc i) (suc j) m n = ap (λ (l : List ℕ). w ∷ l) (mask-swap ws i j m n)

bit-swap : (ws : List ℕ) (a b : ℕ) → with_bit (with_bit ws a) b ≡ with_bit (with_bit ws b) a
bit-swap ws a b = mask-swap ws (a / 64) (b / 64) (1 * 2 ^ (a % 64) % 2 ^ 64) (1 * 2 ^ (b % 64) % 2 ^ 64)

bit-late : (ws bs : List ℕ) (a : ℕ) → with_bits (with_bit ws a) bs ≡ with_bit (with_bits ws bs) a
bit-late ws [] a = refl
bit-late ws (b ∷ bs) a = ap (λ (l : List ℕ). with_bits l bs) (bit-swap ws a b) ∙ bit-late (with_bit ws b) bs a

bits-swap : (ws cs bs : List ℕ) → with_bits (with_bits ws cs) bs ≡ with_bits (with_bits ws bs) cs
bits-swap ws [] bs = refl
bits-swap ws (c ∷ cs) bs = bits-swap (with_bit ws c) cs bs ∙ ap (λ (l : List ℕ). with_bits l cs) (bit-late ws bs c)

two-words : (ws a b : List ℕ) → 0 < length ws → with_word (with_word ws a) b
    ≡ with_bits (with_bits ws (places (bit_count ws) (fnv a))) (places (bit_count ws) (fnv b))
two-words ws a b lt =
    let more = with_bits ws (places (bit_count ws) (fnv a)) in
    let len : length (with_bits ws (places (bit_count ws) (fnv a)))
    ≡ length ws = bits-len ws (places (bit_count ws) (fnv a)) in
    ap (λ (l : List ℕ). with_word l b) (filled ws a lt)
    ∙ filled (with_bits ws (places (bit_count ws) (fnv a))) b (omega (arith, len, lt))
    ∙ ap (λ (n : ℕ). with_bits (with_bits ws (places (bit_count ws) (fnv a))) (places (64 * n) (fnv b))) len

pub word-swap : (ws a b : List ℕ) → with_word (with_word ws a) b ≡ with_word (with_word ws b) a
word-swap [] a b = refl
word-swap (w ∷ ws) a b =
    let some : 0 < length (w ∷ ws) = omega arith in
    two-words (w ∷ ws) a b some
    ∙ bits-swap (w ∷ ws) (places (bit_count (w ∷ ws)) (fnv a)) (places (bit_count (w ∷ ws)) (fnv b))
    ∙ sym (two-words (w ∷ ws) b a some)
