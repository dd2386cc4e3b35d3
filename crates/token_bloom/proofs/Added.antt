-- A word that was added may be there.
use Rattle.std.proofs.Common.{◌≡◌, ℕ, ◌*◌, ◌/◌, ◌%◌, ◌<◌, ◌^◌, Bool, true, false, eqb, ltb, List, [], ◌∷◌}
use Rattle.std.proofs.Common.{length, get_or, refl, sym, ap, ◌∙◌, arith, inl, inr, w64}
use Rattle.std.specs.Prelude.{◌&&◌, bit_or}
use Rattle.std.specs.List.{AllByRecursion}
use Rattle.std.specs.Int.{bit_at}
use Rattle.std.proofs.lemmas.Bool.{cases_eq, eq-eqb, eqb-true, ne_eqb, lt-ltb, ltb-true}
use Rattle.std.proofs.lemmas.Nat.{mod_below}
use Rattle.std.proofs.lemmas.List.{get_or-set_same, get_or-set_other}
use Rattle.std.proofs.Math.ListN.{length-set}
use Rattle.std.proofs.lemmas.Nat.Bits.{bit_at_set_same, bit_at_set_other}
use Rattle.token_bloom.specs.Bits.{has_bit, with_bit, has_bits, with_bits, place, places, bit_count, fnv}
use Rattle.token_bloom.specs.Filter.{may_have, with_hash, with_word}

row-in : (b n : ℕ) → b < 64 * n → b / 64 < n
row-in b n lt = omega (arith, lt)

pub has-set : (ws : List ℕ) (b : ℕ) → b < 64 * length ws → has_bit (with_bit ws b) b ≡ true
has-set ws b lt =
    let word = get_or ws (b / 64) 0 in
    let here : get_or (with_bit ws b) (b / 64) 0 ≡ bit_or (get_or ws (b / 64) 0) (1 * 2 ^
    (b % 64) % 2 ^ 64) = get_or-set_same ws (b / 64) (bit_or (get_or ws (b / 64) 0) (1 * 2 ^
    (b % 64) % 2 ^ 64)) 0 (row-in b (length ws) lt) in
    eq-eqb (bit_at (get_or (with_bit ws b) (b / 64) 0) (b % 64)) 1 (ap (λ (n : ℕ). bit_at n (b % 64)) here
    ∙ bit_at_set_same w64 (get_or ws (b / 64) 0) (b % 64) (omega arith))

pub has-kept : (ws : List ℕ) (b a : ℕ) → b < 64 * length ws → has_bit ws a ≡ true → has_bit (with_bit ws b) a ≡ true
has-kept ws b a lt h =
    let new = bit_or (get_or ws (b / 64) 0) (1 * 2 ^ (b % 64) % 2 ^ 64) in
    let was : bit_at (get_or ws (a / 64) 0) (a % 64) ≡ 1 = eqb-true (bit_at (get_or ws (a / 64) 0) (a % 64)) 1 h in
    elim (cases_eq (a / 64) (b / 64)) [
      | inl row ↦ elim (cases_eq (a % 64) (b % 64)) [
        | inl col ↦ let same : b ≡ a = omega (arith, row, col) in ap (has_bit (with_bit ws b)) (sym same)
            ∙ has-set ws b lt
        | inr other ↦
            let here : get_or (with_bit ws b) (a / 64) 0
            ≡ bit_or (get_or ws (b / 64) 0) (1 * 2 ^ (b % 64) % 2 ^ 64) = ap (λ (i : ℕ). get_or
            (with_bit ws b) i 0) row ∙ get_or-set_same ws (b / 64) (bit_or (get_or ws (b / 64) 0) (1 * 2 ^
            (b % 64) % 2 ^ 64)) 0 (row-in b (length ws) lt) in
            eq-eqb (bit_at (get_or (with_bit ws b) (a / 64) 0) (a % 64)) 1 (ap (λ (n : ℕ). bit_at n (a % 64)) here
            ∙ bit_at_set_other w64 (get_or ws (b / 64) 0) (b % 64) (omega arith) (a % 64) other
            ∙ ap (λ (i : ℕ). bit_at (get_or ws i 0) (a % 64)) (sym row) ∙ was)
      ]
      | inr apart ↦
          let here : get_or (with_bit ws b) (a / 64) 0
          ≡ get_or ws (a / 64) 0 = get_or-set_other ws (b / 64) (a / 64) (bit_or (get_or ws (b / 64) 0) (1 * 2 ^
          (b % 64) % 2 ^ 64)) 0 apart in
          eq-eqb (bit_at (get_or (with_bit ws b) (a / 64) 0) (a % 64)) 1 (ap (λ (n : ℕ). bit_at n (a % 64)) here
          ∙ was)
    ]

len-kept : (ws : List ℕ) (b : ℕ) → length (with_bit ws b) ≡ length ws
len-kept ws b = length-set ws (b / 64) (bit_or (get_or ws (b / 64) 0) (1 * 2 ^ (b % 64) % 2 ^ 64))

within-kept : (ws : List ℕ) (b : ℕ) (bs : List ℕ) → AllByRecursion (λ c. c < 64 * length ws) bs
    → AllByRecursion (λ c. c < 64 * length (with_bit ws b)) bs
within-kept ws b [] h = tt
within-kept ws b (c ∷ bs) h = (omega (arith, h.0, len-kept ws b), within-kept ws b bs h.1)

pub bits-kept : (ws bs : List ℕ) (a : ℕ) → AllByRecursion (λ b. b < 64 * length ws) bs → has_bit ws a ≡ true
    → has_bit (with_bits ws bs) a ≡ true
bits-kept ws [] a within h = h
bits-kept ws (b ∷ bs) a within h = bits-kept (with_bit ws b) bs a (within-kept ws b bs within.1)
    (has-kept ws b a within.0 h)

pub added : (ws bs : List ℕ) → AllByRecursion (λ b. b < 64 * length ws) bs → has_bits (with_bits ws bs) bs ≡ true
added ws [] within = refl
added ws (b ∷ bs) within =
    rw (
      bits-kept (with_bit ws b) bs b (within-kept ws b bs within.1) (has-set ws b within.0),
      added
          (with_bit ws b) bs (within-kept ws b bs within.1),
    ) refl

pub bits-len : (ws bs : List ℕ) → length (with_bits ws bs) ≡ length ws
bits-len ws [] = refl
bits-len ws (b ∷ bs) = bits-len (with_bit ws b) bs ∙ len-kept ws b

-- the six places are bits of the filter
places-within : (ws : List ℕ) (h : ℕ) → 0 < length ws → AllByRecursion (λ b. b < 64 * length ws) (places
    (bit_count ws) h)
places-within ws h lt =
    let some : 0 < bit_count ws = omega (arith, lt) in
    let one : (i : ℕ) → place (bit_count ws) h i < 64 * length ws = λ i. mod_below _ (bit_count ws) some in
    (one 0, (one 1, (one 2, (one 3, (one 4, (one 5, tt))))))

pub hash_filled : (ws : List ℕ) (hash : ℕ) → 0 < length ws → with_hash ws hash ≡ with_bits ws (places
    (bit_count ws) hash)
hash_filled ws hash lt =
    let some : eqb (length ws) 0 ≡ false = ne_eqb (length ws) 0 (λ e. omega (arith, e, lt)) in
    rw some refl

pub filled : (ws word : List ℕ) → 0 < length ws → with_word ws word ≡ with_bits ws (places (bit_count ws) (fnv word))
filled ws word lt = hash_filled ws (fnv word) lt

both : (a b : Bool) → (a && b) ≡ true → (a ≡ true) × (b ≡ true)
both true true e = (refl, refl)
both true false e = absurd cc
both false b e = absurd cc

has-within : (ws : List ℕ) (bs cs : List ℕ) → AllByRecursion (λ b. b < 64 * length ws) bs → has_bits ws cs ≡ true
    → has_bits (with_bits ws bs) cs ≡ true
has-within ws bs [] within h = refl
has-within ws bs (c ∷ cs) within h =
    let p = both (has_bit ws c) (has_bits ws cs) h in
    rw (bits-kept ws bs c within p.0, has-within ws bs cs within p.1) refl

pub word-added : (ws word : List ℕ) → 0 < length ws → may_have (with_word ws word) word ≡ true
word-added ws word lt =
    let bs = places (bit_count ws) (fnv word) in
    let len : length (with_bits ws (places (bit_count ws) (fnv word)))
    ≡ length ws = bits-len ws (places (bit_count ws) (fnv word)) in
    let some : ltb 0 (length (with_bits ws (places (bit_count ws) (fnv word)))) ≡ true =
    lt-ltb 0 (length (with_bits ws (places (bit_count ws) (fnv word)))) (omega (arith, len, lt)) in
    ap (λ (l : List ℕ). may_have l word) (filled ws word lt)
    ∙ ap (λ (t : Bool). t && has_bits (with_bits ws (places (bit_count ws) (fnv word)))
    (places (bit_count (with_bits ws (places (bit_count ws) (fnv word)))) (fnv word))) some
    ∙ ap (λ (n : ℕ). has_bits (with_bits ws (places (bit_count ws) (fnv word))) (places (64 * n) (fnv word))) len
    ∙ added ws (places (bit_count ws) (fnv word)) (places-within ws (fnv word) lt)

pub word-kept : (ws word other : List ℕ) → may_have ws other ≡ true → may_have (with_word ws word) other ≡ true
word-kept ws word other h =
    let p = both (ltb 0 (length ws)) (has_bits ws (places (bit_count ws) (fnv other))) h in
    let lt = ltb-true 0 (length ws) p.0 in
    let bs = places (bit_count ws) (fnv word) in
    let len : length (with_bits ws (places (bit_count ws) (fnv word)))
    ≡ length ws = bits-len ws (places (bit_count ws) (fnv word)) in
    let some : ltb 0 (length (with_bits ws (places (bit_count ws) (fnv word)))) ≡ true =
    lt-ltb 0 (length (with_bits ws (places (bit_count ws) (fnv word)))) (omega (arith, len, lt)) in
    ap (λ (l : List ℕ). may_have l other) (filled ws word lt)
    ∙ ap (λ (t : Bool). t && has_bits (with_bits ws (places (bit_count ws) (fnv word)))
    (places (bit_count (with_bits ws (places (bit_count ws) (fnv word)))) (fnv other))) some
    ∙ ap (λ (n : ℕ). has_bits (with_bits ws (places (bit_count ws) (fnv word))) (places (64 * n) (fnv other))) len
    ∙ (has-within ws (places (bit_count ws) (fnv word)) (places (bit_count ws) (fnv other)) (places-within ws
    (fnv word) lt) p.1)
