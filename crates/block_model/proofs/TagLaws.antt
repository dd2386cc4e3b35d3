-- Short texts are told apart by their lengths and tags.
use Rattle.std.proofs.Common.{◌≡◌, ◌⊎◌, ℕ, zero, suc, ◌+◌, ◌*◌, ◌-◌, ◌/◌, ◌^◌, ◌<◌, ◌≤◌, true, false, List, [], ◌∷◌, length}
use Rattle.std.proofs.Common.{get_or, inl, inr, refl, sym, ap, ◌∙◌, arith, ⊎_elim}
use Rattle.std.specs.Prelude.{nat_le, nat_lt}
use Rattle.std.proofs.lemmas.Bool.{cases_lt}
use Rattle.std.proofs.lemmas.Bool.Decides.{nat_tests}
use Rattle.std.proofs.lemmas.List.{ext_get_or}
use Rattle.std.proofs.lemmas.Nat.{le_bytes_4}
use Rattle.block_model.specs.Tags.{AreBytes, four_at, tag_of}

-- ---- four bytes

abbrev four : List ℕ → ℕ → List ℕ
four xs at = get_or xs at 0 ∷ get_or xs (at + 1) 0 ∷ get_or xs (at + 2) 0 ∷ get_or xs (at + 3) 0 ∷ []

bytes-four : (xs : List ℕ) (at : ℕ) → AreBytes xs → AreBytes (four xs at)
bytes-four xs at bytes zero = bytes at
bytes-four xs at bytes (suc zero) = bytes (at + 1)
bytes-four xs at bytes (suc (suc zero)) = bytes (at + 2)
bytes-four xs at bytes (suc (suc (suc zero))) = bytes (at + 3)
bytes-four xs at bytes (suc (suc (suc (suc i)))) = omega arith

same-four : (xs ys : List ℕ) (at : ℕ) → AreBytes xs → AreBytes ys → four_at xs at ≡ four_at ys at → four xs at ≡ four ys at
same-four xs ys at bytes others e =
    sym (le_bytes_4 (four xs at) (four_at xs at) refl (bytes-four xs at bytes) refl)
    ∙ le_bytes_4 (four ys at) (four_at xs at) refl (bytes-four ys at others) e

same-of-four : (xs ys : List ℕ) (at j : ℕ) → j < 4 → four xs at ≡ four ys at → get_or xs (at + j) 0 ≡ get_or ys (at + j) 0
same-of-four xs ys at zero lt e =
    let here : at + 0 ≡ at = omega arith in
    ap (λ k. get_or xs k 0) here ∙ ap (λ l. get_or l 0 0) e ∙ ap (λ k. get_or ys k 0) (sym here)
same-of-four xs ys at (suc zero) lt e = ap (λ l. get_or l 1 0) e
same-of-four xs ys at (suc (suc zero)) lt e = ap (λ l. get_or l 2 0) e
same-of-four xs ys at (suc (suc (suc zero))) lt e = ap (λ l. get_or l 3 0) e
same-of-four xs ys at (suc (suc (suc (suc j)))) lt e = absurd (omega (arith, lt))

four-lt : (xs : List ℕ) (at : ℕ) → AreBytes xs → four_at xs at < 2 ^ 32
four-lt xs at bytes = omega (arith, bytes at, bytes (at + 1), bytes (at + 2), bytes (at + 3))

-- ---- four to seven bytes

pub same-middle : (xs ys : List ℕ) → AreBytes xs → AreBytes ys → length xs ≡ length ys → 4 ≤ length xs → length xs < 8
    → four_at xs 0 * 2 ^ 32 + four_at xs (length xs - 4) ≡ four_at ys 0 * 2 ^ 32 + four_at ys (length ys - 4) → xs ≡ ys
same-middle xs ys bytes others len some few e =
    let last : four_at ys (length ys - 4) ≡ four_at ys (length xs - 4) = ap (λ n. four_at ys (n - 4)) (sym len) in
    let front : four_at xs 0 ≡ four_at ys 0 = omega (arith, e, four-lt xs (length xs - 4) bytes, four-lt ys (length ys - 4) others) in
    let back : four_at xs (length xs - 4) ≡ four_at ys (length xs - 4) = omega (arith, e, front, last) in
    ext_get_or 0 xs ys len (λ i lt. ⊎_elim
    (λ (early : i < 4). at-start i early (same-four xs ys 0 bytes others front))
    (λ (late : 4 ≤ i). at-end i lt late (same-four xs ys (length xs - 4) bytes others back)) (cases_lt i 4))
  where
    at-start : (i : ℕ) → i < 4 → four xs 0 ≡ four ys 0 → get_or xs i 0 ≡ get_or ys i 0
    at-start i early same =
        let here : 0 + i ≡ i = omega arith in
        ap (λ k. get_or xs k 0) (sym here) ∙ same-of-four xs ys 0 i early same ∙ ap (λ k. get_or ys k 0) here

    at-end : (i : ℕ) → i < length xs → 4 ≤ i → four xs (length xs - 4) ≡ four ys (length xs - 4) → get_or xs i 0 ≡ get_or ys i 0
    at-end i lt late same =
        let here : length xs - 4 + (i - (length xs - 4)) ≡ i = omega (arith, lt, late, few) in
        ap (λ k. get_or xs k 0) (sym here)
        ∙ same-of-four xs ys (length xs - 4) (i - (length xs - 4)) (omega (arith, lt, late, few)) same
        ∙ ap (λ k. get_or ys k 0) here

-- ---- up to three bytes

pub same-few : (xs ys : List ℕ) → AreBytes xs → AreBytes ys → length xs ≡ length ys → 0 < length xs → length xs < 4
    → get_or xs 0 0 * 65536 + get_or xs (length xs / 2) 0 * 256 + get_or xs (length xs - 1) 0
    ≡ get_or ys 0 0 * 65536 + get_or ys (length ys / 2) 0 * 256 + get_or ys (length ys - 1) 0 → xs ≡ ys
same-few xs ys bytes others len some few e =
    let middle_place = ap (λ n. get_or ys (n / 2) 0) (sym len) in
    let last_place = ap (λ n. get_or ys (n - 1) 0) (sym len) in
    let first : get_or xs 0 0 ≡ get_or ys 0 0 = omega (
      arith,
      e,
      bytes (length xs / 2),
      bytes (length xs - 1),
      others (length ys / 2),
      others (length ys - 1),
    ) in
    let middle : get_or xs (length xs / 2) 0 ≡ get_or ys (length xs / 2) 0 = omega (
      arith,
      e,
      first,
      middle_place,
      bytes (length xs - 1),
      others (length ys - 1),
    ) in
    let last : get_or xs (length xs - 1) 0 ≡ get_or ys (length xs - 1) 0 = omega (arith, e, first, middle, middle_place, last_place) in
    ext_get_or 0 xs ys len (λ i lt. each i lt (cases_lt i 1) (cases_lt i (length xs - 1)) first middle last)
  where
    each : (i : ℕ) → i < length xs → (i < 1) ⊎ (1 ≤ i) → (i < length xs - 1) ⊎ (length xs - 1 ≤ i)
        → get_or xs 0 0 ≡ get_or ys 0 0 → get_or xs (length xs / 2) 0 ≡ get_or ys (length xs / 2) 0
        → get_or xs (length xs - 1) 0 ≡ get_or ys (length xs - 1) 0 → get_or xs i 0 ≡ get_or ys i 0
    each i lt (inl zeroth) _ first middle last =
        let here : i ≡ 0 = omega (arith, zeroth) in
        ap (λ k. get_or xs k 0) here ∙ first ∙ ap (λ k. get_or ys k 0) (sym here)
    each i lt (inr later) (inl before) first middle last =
        let here : i ≡ length xs / 2 = omega (arith, lt, later, before, few) in
        ap (λ k. get_or xs k 0) here ∙ middle ∙ ap (λ k. get_or ys k 0) (sym here)
    each i lt (inr later) (inr at) first middle last =
        let here : i ≡ length xs - 1 = omega (arith, lt, at) in
        ap (λ k. get_or xs k 0) here ∙ last ∙ ap (λ k. get_or ys k 0) (sym here)

-- ---- fewer than eight

pub is-less : (m n : ℕ) → m < n → nat_lt m n ≡ true
is-less m n lt = grind (arith, nat_tests)

no-eight : (n : ℕ) → n < 8 → nat_le 8 n ≡ false
no-eight n lt = grind (arith, nat_tests)

is-four : (n : ℕ) → 4 ≤ n → nat_le 4 n ≡ true
is-four n some = grind (arith, nat_tests)

no-four : (n : ℕ) → n < 4 → nat_le 4 n ≡ false
no-four n lt = grind (arith, nat_tests)

is-some : (n : ℕ) → 0 < n → nat_lt 0 n ≡ true
is-some n some = grind (arith, nat_tests)

tag-middle : (xs : List ℕ) → 4 ≤ length xs → length xs < 8
    → tag_of xs ≡ four_at xs 0 * 2 ^ 32 + four_at xs (length xs - 4)
unfolding tag_of
tag-middle xs some few = rw (no-eight _ few, is-four _ some) refl

tag-few : (xs : List ℕ) → 0 < length xs → length xs < 4
    → tag_of xs ≡ get_or xs 0 0 * 65536 + get_or xs (length xs / 2) 0 * 256 + get_or xs (length xs - 1) 0
unfolding tag_of
tag-few xs some few = rw (no-eight (length xs) (omega (arith, few)), no-four (length xs) few, is-some (length xs) some) refl

pub same-short : (xs ys : List ℕ) → AreBytes xs → AreBytes ys → length xs ≡ length ys → length xs < 8
    → tag_of xs ≡ tag_of ys → xs ≡ ys
same-short [] [] bytes others len short e = refl
same-short [] (y ∷ ys) bytes others len short e = absurd (omega (arith, len))
same-short (x ∷ xs) ys bytes others len short e =
    ⊎_elim
    (λ (few : length (x ∷ xs) < 4). same-few (x ∷ xs) ys bytes others len (omega arith) few
    (sym (tag-few (x ∷ xs) (omega arith) few) ∙ e ∙ tag-few ys (omega (arith, len)) (omega (arith, len, few))))
    (λ (some : 4 ≤ length (x ∷ xs)). same-middle (x ∷ xs) ys bytes others len some short
    (sym (tag-middle (x ∷ xs) some short) ∙ e ∙ tag-middle ys (omega (arith, len, some)) (omega (arith, len, short))))
    (cases_lt (length (x ∷ xs)) 4)
