-- Integers as the least of them and the differences from it.
use Rattle.std.proofs.Common.{◌≡◌, ℕ, zero, suc, ◌+◌, ◌≤◌, ◌<◌, ◌^◌, max, true, false, Some, get_or, length, w8, List, [], ◌∷◌, ◌++◌, map}
use Rattle.std.proofs.Common.{refl, sym, ap, subst, ◌∙◌, arith, inl, inr, ℤ, pos, ◌+ℤ◌, ◌≤ℤ◌, FitsSigned, w64}
use Rattle.std.specs.Prelude.{nat_eq, slice_get, ◌||◌}
use Rattle.std.specs.Int.{Width, int_min, to_le_bytes}
use Rattle.std.specs.List.{All, fold, flat_map, list_all, list_any, AllByRecursion}
use Rattle.std.proofs.lemmas.Bool.{cases_Bool, eqb-true}
use Rattle.std.proofs.lemmas.Int.{ints, clamps}
use Rattle.std.proofs.lemmas.List.Folds.{fold-map}
use Rattle.std.proofs.lemmas.List.Concat.{flat_map-cons}
use Rattle.std.proofs.lemmas.List.Elements.{All-from_recursion}
use Rattle.col_codec.specs.Again.{IsIn, each-of}
use Rattle.col_codec.specs.Ints.{is_i64, gap, least_of, put_int, widest, width_for}
use Rattle.col_codec.specs.Lanes.{IsCanonical, ints_in, numbers_in, sum_of, width_of}
use Rattle.col_codec.specs.Ranges.{fits-is_i64, is_i64-fits}
use Rattle.byte_format.proofs.Cases.{both_true}
use Rattle.col_codec.specs.Widths.{limit}
use Rattle.col_codec.specs.declared.lanes.Lanes.{Lanes}
use Rattle.col_codec.specs.declared.width.IntWidth.{IntWidth}

pub gap-sum_of : (least : ℤ) (n : ℕ) → gap least (sum_of least n) ≡ n
gap-sum_of least n = omega (arith, ints)

-- ---- the widest difference

most-from : (least : ℤ) (start : ℕ) (ns : List ℕ)
    → fold (λ m n. max m (gap least (sum_of least n))) start ns ≡ fold max start ns
most-from least start [] = refl
most-from least start (n ∷ ns) =
    ap (λ (k : ℕ). fold (λ m n. max m (gap least (sum_of least n))) (max start k) ns) (gap-sum_of least n)
    ∙ most-from least (max start n) ns

pub widest-sums : (least : ℤ) (ns : List ℕ) → widest least (map (sum_of least) ns) ≡ fold max 0 ns
unfolding widest
widest-sums least ns = fold-map (λ m x. max m (gap least x)) (sum_of least) 0 ns ∙ most-from least 0 ns

-- ---- each fits 64 bits, if the greatest does

most-above : (start : ℕ) (ns : List ℕ) → start ≤ fold max start ns
most-above start [] = omega arith
most-above start (n ∷ ns) = omega (arith, most-above (max start n) ns)

sum-fits : (least : ℤ) (n most : ℕ) → n ≤ most → FitsSigned w64 least → FitsSigned w64 (sum_of least most)
    → FitsSigned w64 (sum_of least n)
sum-fits least n most le f g = omega (arith, ints)

sums-fit : (least : ℤ) (start : ℕ) (ns : List ℕ) → FitsSigned w64 least
    → FitsSigned w64 (sum_of least (fold max start ns)) → list_all is_i64 (map (sum_of least) ns) ≡ true
sums-fit least start [] f g = refl
sums-fit least start (n ∷ ns) f g =
    let le : n ≤ fold max (max start n) ns = omega (arith, most-above (max start n) ns) in
    let one = is_i64-fits (sum_of least n) (sum-fits least n (fold max (max start n) ns) le f g) in
    rw (one, sums-fit least (max start n) ns f g) refl

-- ---- the least, if a difference is 0

min-low : (least s : ℤ) (ns : List ℕ) → least ≤ℤ s → least ≤ℤ fold int_min s (map (sum_of least) ns)
min-low least s [] le = le
min-low least s (n ∷ ns) le = min-low least (int_min s (sum_of least n)) ns (omega (arith, ints, clamps))

min-below : (least s : ℤ) (ns : List ℕ) → s ≤ℤ least → fold int_min s (map (sum_of least) ns) ≤ℤ least
min-below least s [] le = le
min-below least s (n ∷ ns) le = min-below least (int_min s (sum_of least n)) ns (omega (arith, ints, clamps))

min-zero : (least s : ℤ) (ns : List ℕ) → list_any (nat_eq 0) ns ≡ true
    → fold int_min s (map (sum_of least) ns) ≤ℤ least
min-zero least s [] e = absurd cc
min-zero least s (n ∷ ns) e =
    elim (cases_Bool (nat_eq 0 n)) [
      | inl t ↦
          let z : 0 ≡ n = eqb-true 0 n t in
          min-below least (int_min s (sum_of least n)) ns (omega (arith, ints, clamps))
      | inr f ↦
          let later : list_any (nat_eq 0) ns ≡ true = sym (ap (λ b. b || list_any (nat_eq 0) ns) f) ∙ e in
          min-zero least (int_min s (sum_of least n)) ns later
    ]

pub least-sums : (least : ℤ) (ns : List ℕ) → list_any (nat_eq 0) ns ≡ true → least ≡ least_of (map (sum_of least) ns)
least-sums least [] e = absurd cc
least-sums least (n ∷ ns) e =
    let low : least ≤ℤ fold int_min (sum_of least n) (map (sum_of least) ns) =
    min-low least (sum_of least n) ns (omega (arith, ints)) in
    let high : fold int_min (sum_of least n) (map (sum_of least) ns) ≤ℤ least = elim (cases_Bool (nat_eq 0 n)) [
      | inl t ↦
          let z : 0 ≡ n = eqb-true 0 n t in
          min-below least (sum_of least n) ns (omega (arith, ints))
      | inr f ↦
          let later : list_any (nat_eq 0) ns ≡ true = sym (ap (λ b. b || list_any (nat_eq 0) ns) f) ∙ e in
          min-zero least (sum_of least n) ns later
    ] in
    omega (arith, ints, low, high)

-- ---- numbers that are read as they are written

pub is-canonical : (least : ℤ) (held : Lanes) → list_any (nat_eq 0) (numbers_in held) ≡ true
    → FitsSigned w64 least → FitsSigned w64 (sum_of least (fold max 0 (numbers_in held)))
    → width_of held ≡ width_for (fold max 0 (numbers_in held)) → IsCanonical least held
is-canonical least held none f g w = record {
  fits = sums-fit least 0 (numbers_in held) f g;
  least = least-sums least (numbers_in held) none;
  width = w ∙ sym (ap width_for (widest-sums least (numbers_in held)));
}

-- ---- integers that are held so

narrow-map : (width : IntWidth) (least : ℤ) (xs : List ℤ) → AllByRecursion (IsIn width least) xs
    → AllByRecursion (λ n. n < limit width) (map (gap least) xs)
narrow-map width least [] h = tt
narrow-map width least (x ∷ xs) h = (h.0.narrow, narrow-map width least xs h.1)

sums-of : (width : IntWidth) (least : ℤ) (xs : List ℤ) → AllByRecursion (IsIn width least) xs
    → map (sum_of least) (map (gap least) xs) ≡ xs
sums-of width least [] h = refl
sums-of width least (x ∷ xs) h =
    ap (λ (z : ℤ). z ∷ map (sum_of least) (map (gap least) xs)) h.0.sum
    ∙ ap (λ (l : List ℤ). x ∷ l) (sums-of width least xs h.1)

pub gaps-narrow : (xs : List ℤ) → list_all is_i64 xs ≡ true
    → All (λ n. n < limit (width_for (widest (least_of xs) xs))) (map (gap (least_of xs)) xs)
gaps-narrow xs fits = All-from_recursion (λ n. n < limit (width_for (widest (least_of xs) xs))) (map (gap
    (least_of xs)) xs) (narrow-map (width_for (widest (least_of xs) xs)) (least_of xs) xs (each-of xs fits))

pub gaps-sums : (xs : List ℤ) → list_all is_i64 xs ≡ true
    → map (sum_of (least_of xs)) (map (gap (least_of xs)) xs) ≡ xs
gaps-sums xs fits = sums-of (width_for (widest (least_of xs) xs)) (least_of xs) xs (each-of xs fits)

pub held-ints : (least : ℤ) (held : Lanes) (xs : List ℤ) → list_all is_i64 xs ≡ true → least ≡ least_of xs
    → numbers_in held ≡ map (gap least) xs → width_of held ≡ width_for (widest least xs)
    → (ints_in least held ≡ xs) × IsCanonical least held
held-ints least held xs fits l n w =
    let same : ints_in least held ≡ xs = ap (map (sum_of least)) n
    ∙ ap (λ (m : ℤ). map (sum_of m) (map (gap m) xs)) l ∙ gaps-sums xs fits in (
      same,
      record {
        fits = ap (list_all is_i64) same ∙ fits;
        least = l ∙ sym (ap least_of same);
        width = w ∙ sym (ap (λ (zs : List ℤ). width_for (widest least zs)) same);
      },
    )

-- ---- and how they are written

pub sums-spelled : (w : Width) (least : ℤ) (ns : List ℕ)
    → flat_map (put_int w least) (map (sum_of least) ns) ≡ flat_map (to_le_bytes w) ns
sums-spelled w least [] = refl
sums-spelled w least (n ∷ ns) =
    flat_map-cons (put_int w least) (sum_of least n) (map (sum_of least) ns)
    ∙ ap (λ (k : ℕ). to_le_bytes w k ++ flat_map (put_int w least) (map (sum_of least) ns)) (gap-sum_of least n)
    ∙ ap (λ (l : List ℕ). to_le_bytes w n ++ l) (sums-spelled w least ns)
    ∙ sym (flat_map-cons (to_le_bytes w) n ns)

pub bytes-spelled : (ns : List ℕ) → AllByRecursion (λ n. n < 2 ^ 8) ns → flat_map (to_le_bytes w8) ns ≡ ns
bytes-spelled [] h = refl
bytes-spelled (n ∷ ns) h =
    let one : to_le_bytes w8 n ≡ n ∷ [] = ap (λ (k : ℕ). k ∷ []) (omega (arith, h.0)) in
    flat_map-cons (to_le_bytes w8) n ns ∙ ap (λ (l : List ℕ). l ++ flat_map (to_le_bytes w8) ns) one
    ∙ ap (λ (l : List ℕ). n ∷ l) (bytes-spelled ns h.1)

-- ---- the integer at a place

pub sum-at : (least : ℤ) (ns : List ℕ) (i : ℕ) → i < length ns
    → slice_get (map (sum_of least) ns) i ≡ Some (sum_of least (get_or ns i 0))
sum-at least [] i lt = absurd (omega (arith, lt))
sum-at least (n ∷ ns) zero lt = refl
sum-at least (n ∷ ns) (suc i) lt = sum-at least ns i (omega (arith, lt))

pub sum-at-fits : (least : ℤ) (ns : List ℕ) (i : ℕ) → i < length ns → list_all is_i64 (map (sum_of least) ns) ≡ true
    → FitsSigned w64 (sum_of least (get_or ns i 0))
sum-at-fits least [] i lt e = absurd (omega (arith, lt))
sum-at-fits least (n ∷ ns) zero lt e =
    fits-is_i64 (sum_of least n) (both_true (is_i64 (sum_of least n)) (list_all is_i64 (map (sum_of least) ns)) e).0
sum-at-fits least (n ∷ ns) (suc i) lt e =
    sum-at-fits least ns i (omega (arith, lt)) (both_true (is_i64 (sum_of least n)) (list_all is_i64
    (map (sum_of least) ns)) e).1
