-- What is written of a column is read again.
use Rattle.std.proofs.Common.{◌≡◌, ℕ, ◌^◌, ◌<◌, ◌≤◌, max, Bool, true, false, cond, eqb, List}
use Rattle.std.proofs.Common.{[], ◌∷◌, ◌++◌, length, Some, Result, Ok, ℤ, pos}
use Rattle.std.proofs.Common.{◌+ℤ◌, ◌≤ℤ◌, refl, sym, ap, ◌∙◌, arith, inl, inr, FitsSigned}
use Rattle.std.proofs.Common.{w64, to_z, of_z, append_assoc}
use Rattle.std.specs.Prelude.{◌&&◌, int_lt}
use Rattle.std.proofs.lemmas.List.Elements.{recursion_from_All}
use Rattle.std.specs.List.{fold, flat_map, list_all, AllByRecursion}
use Rattle.std.specs.Int.{byte_len, from_le_bytes, to_le_bytes, int_min}
use Rattle.std.proofs.lemmas.Bool.{eqb-true, cases_lt, lt-ltb, le-ltb}
use Rattle.std.proofs.lemmas.List.{append-nil}
use Rattle.std.proofs.lemmas.Nat.{from_le_bytes-to_le_bytes_2, from_le_bytes-to_le_bytes_4}
use Rattle.std.proofs.lemmas.Nat.{from_le_bytes-to_le_bytes_8}
use Rattle.std.proofs.lemmas.Int.{to_z-of_z, fold-int_min_bounds, ints}
use Rattle.byte_format.specs.Format.{value, exactly, front, whole, ended, ◌>>=◌}
use Rattle.byte_format.specs.Spelling.{IsReadAgain}
use Rattle.byte_format.proofs.Readings.{front-item}
use Rattle.byte_format.proofs.Cases.{both_true, some_from}
use Rattle.byte_format.proofs.Turns.{many-again}
use Rattle.byte_format.specs.Written.{signed_bytes}
use Rattle.col_codec.specs.declared.width.IntWidth.{IntWidth}
use Rattle.col_codec.specs.declared.width.IntWidth.TheVariants.{One, Two, Four, Eight}
use Rattle.col_codec.specs.Widths.{bits_of, limit}
use Rattle.col_codec.specs.Ints.{is_i64, is_width, width_in, gap, widest, width_for, put_int, width_code, int_above}
use Rattle.col_codec.specs.Ints.{sum_in, int_steps, ints as int_format, spelled, int_spelling, int_writing, least_of}
use Rattle.byte_format.specs.Items.{signed, signed_in, any_bytes}
use Rattle.col_codec.specs.Ranges.{is_i64-fits, fits-is_i64}
use Rattle.col_codec.specs.ColumnLaws.{ints-steps}

code-again : (width : IntWidth) (rest : List ℕ) → front width_code ((byte_len (bits_of width) ∷ []) ++ rest)
    ≡ Ok (width, rest)
code-again One rest = front-item (exactly 1) is_width (λ code. value (width_in code)) (1 ∷ []) rest refl refl
code-again Two rest = front-item (exactly 1) is_width (λ code. value (width_in code)) (2 ∷ []) rest refl refl
code-again Four rest = front-item (exactly 1) is_width (λ code. value (width_in code)) (4 ∷ []) rest refl refl
code-again Eight rest = front-item (exactly 1) is_width (λ code. value (width_in code)) (8 ∷ []) rest refl refl

least-again : (m : ℤ) (rest : List ℕ) → FitsSigned w64 m
    → front signed (to_le_bytes w64 (of_z w64 m) ++ rest) ≡ Ok (m, rest)
least-again m rest fits =
    let n : from_le_bytes w64 (to_le_bytes w64 (of_z w64 m))
    ≡ of_z w64 m = from_le_bytes-to_le_bytes_8 (of_z w64 m) (omega (arith, ints)) in
    front-item (exactly 8) any_bytes (λ bytes. value (signed_in bytes)) (to_le_bytes w64 (of_z w64 m)) rest refl refl
    ∙ ap (λ (z : ℤ). Ok (z, rest)) (ap (to_z w64) n ∙ to_z-of_z w64 m fits)

number-again : (width : IntWidth) (n : ℕ) → n < limit width
    → from_le_bytes (bits_of width) (to_le_bytes (bits_of width) n) ≡ n
number-again One n lt = omega arith
number-again Two n lt = from_le_bytes-to_le_bytes_2 n lt
number-again Four n lt = from_le_bytes-to_le_bytes_4 n lt
number-again Eight n lt = from_le_bytes-to_le_bytes_8 n lt

number-len : (width : IntWidth) (n : ℕ) → length (to_le_bytes (bits_of width) n) ≡ byte_len (bits_of width)
number-len One n = refl
number-len Two n = refl
number-len Four n = refl
number-len Eight n = refl

-- what an integer of the column is
pub record IsIn (width : IntWidth) (least x : ℤ) : Type 0 where
  pub narrow : gap least x < limit width
  pub sum : least +ℤ pos (gap least x) ≡ x
  pub fits : FitsSigned w64 x

int-again : (width : IntWidth) (least x : ℤ) (rest : List ℕ) → IsIn width least x
    → front (int_above (bits_of width) least) (put_int (bits_of width) least x ++ rest) ≡ Ok (x, rest)
int-again width least x rest h =
    let n = number-again width (gap least x) h.narrow in
    let s : sum_in (bits_of width) least (to_le_bytes (bits_of width) (gap least x))
    ≡ x = ap (λ (m : ℕ). least +ℤ pos m) n ∙ h.sum in
    front-item (exactly (byte_len (bits_of width))) (λ bytes. is_i64 (sum_in (bits_of width) least bytes))
    (λ bytes. value (sum_in (bits_of width) least bytes)) (put_int (bits_of width) least x) rest (sym
    (number-len width (gap least x))) (ap is_i64 s ∙ is_i64-fits x h.fits)
    ∙ ap (λ (z : ℤ). Ok (z, rest)) s

-- the width takes each difference
width-holds : (n : ℕ) → n < 2 ^ 64 → n < limit (width_for n)
width-holds n lt =
    elim (cases_lt n (2 ^ 8)) [
      | inl a ↦ rw (lt-ltb n (2 ^ 8) a) a
      | inr a ↦ elim (cases_lt n (2 ^ 16)) [
        | inl b ↦ rw (le-ltb n (2 ^ 8) a, lt-ltb n (2 ^ 16) b) b
        | inr b ↦ elim (cases_lt n (2 ^ 32)) [
          | inl d ↦ rw (le-ltb n (2 ^ 8) a, le-ltb n (2 ^ 16) b, lt-ltb n (2 ^ 32) d) d
          | inr d ↦ rw (le-ltb n (2 ^ 8) a, le-ltb n (2 ^ 16) b, le-ltb n (2 ^ 32) d) lt
        ]
      ]
    ]

-- the difference to the least is at most the widest
widest-bounds : (least : ℤ) (xs : List ℤ) (start : ℕ) → (start ≤ fold (λ m x. max m (gap least x)) start xs)
    × AllByRecursion (λ x. gap least x ≤ fold (λ m x. max m (gap least x)) start xs) xs
widest-bounds least [] start = (omega arith, tt)
widest-bounds least (x ∷ xs) start = let r = widest-bounds least xs (max start (gap least x)) in (
  omega
      (arith, r.0),
  (omega (arith, r.0), r.1),
)

gap-sum : (least x : ℤ) → least ≤ℤ x → least +ℤ pos (gap least x) ≡ x
gap-sum least x le = omega (arith, ints)

gap-below : (least x : ℤ) → FitsSigned w64 least → FitsSigned w64 x → gap least x < 2 ^ 64
gap-below least x f g = omega (arith, ints)

-- ---- all of a column

of_two : (t : Bool) (x y : ℤ) → FitsSigned w64 x → FitsSigned w64 y → FitsSigned w64 (cond t x y)
of_two true x y f g = f
of_two false x y f g = g

each-in : (least : ℤ) (most : ℕ) (xs : List ℤ) → FitsSigned w64 least → most < 2 ^ 64
    → AllByRecursion (λ x. least ≤ℤ x) xs → AllByRecursion (λ x. gap least x ≤ most) xs → list_all is_i64 xs ≡ true
    → AllByRecursion (IsIn (width_for most) least) xs
each-in least most [] small lt low near fits = tt
each-in least most (x ∷ xs) small lt low near fits =
    let p = both_true (is_i64 x) (list_all is_i64 xs) fits in
    let h = width-holds most lt in
    let g : gap least x ≤ most = near.0 in (
      record { narrow = omega (arith, h, g); sum = gap-sum least x low.0; fits = fits-is_i64 x p.0 },
      each-in least
          most xs small lt low.1 near.1 p.1,
    )

most-below : (least : ℤ) (xs : List ℤ) (start : ℕ) → FitsSigned w64 least → list_all is_i64 xs ≡ true
    → start < 2 ^ 64 → fold (λ m x. max m (gap least x)) start xs < 2 ^ 64
most-below least [] start small fits lt = lt
most-below least (x ∷ xs) start small fits lt =
    let p = both_true (is_i64 x) (list_all is_i64 xs) fits in
    let g = gap-below least x small (fits-is_i64 x p.0) in
    most-below least xs (max start (gap least x)) small p.1 (omega (arith, g, lt))

least-fits : (xs : List ℤ) (start : ℤ) → FitsSigned w64 start → list_all is_i64 xs ≡ true
    → FitsSigned w64 (fold int_min start xs)
least-fits [] start small fits = small
least-fits (x ∷ xs) start small fits = let p = both_true (is_i64 x) (list_all is_i64 xs) fits in least-fits xs
    (int_min start x) (of_two (int_lt x start) x start (fits-is_i64 x p.0) small) p.1

least-of-fits : (xs : List ℤ) → list_all is_i64 xs ≡ true → FitsSigned w64 (least_of xs)
least-of-fits [] fits = omega (arith, ints)
least-of-fits (x ∷ xs) fits = let p = both_true (is_i64 x) (list_all is_i64 xs) fits in least-fits xs x
    (fits-is_i64 x p.0) p.1

least-of-low : (xs : List ℤ) → AllByRecursion (λ x. least_of xs ≤ℤ x) xs
least-of-low [] = tt
least-of-low (x ∷ xs) = let r = fold-int_min_bounds x xs (fold int_min x xs) refl in (
  r.0,
  recursion_from_All
      (λ y. fold int_min x xs ≤ℤ y) xs r.1,
)

-- each integer of a column, above the least of them
pub each-of : (xs : List ℤ) → list_all is_i64 xs ≡ true
    → AllByRecursion (IsIn (width_for (widest (least_of xs) xs)) (least_of xs)) xs
unfolding widest
each-of xs fits =
    let small = least-of-fits xs fits in
    each-in (least_of xs) (widest (least_of xs) xs) xs small (most-below (least_of xs) xs 0 small fits (omega arith))
    (least-of-low xs) (widest-bounds (least_of xs) xs 0).1 fits

pub ints-again : (xs : List ℤ) (rest : List ℕ) → list_all is_i64 xs ≡ true
    → front (int_format (length xs)) (int_spelling xs ++ rest) ≡ Ok (xs, rest)
unfolding int_steps spelled int_spelling widest
ints-again xs rest fits =
    let least = least_of xs in
    let small = least-of-fits xs fits in
    let width = width_for (widest (least_of xs) xs) in
    let body = flat_map (put_int (bits_of (width_for (widest (least_of xs) xs))) (least_of xs)) xs in
    let each = each-of xs fits in
    let last = many-again (int_above (bits_of width) least) (put_int (bits_of width) least) (IsIn width least)
    (λ x r h. int-again width least x r h) xs rest each in
    let regrouped : int_spelling xs ++ rest ≡ (byte_len (bits_of width) ∷ []) ++ (signed_bytes least ++
    (body ++ rest)) =
    append_assoc (byte_len (bits_of width) ∷ []) (signed_bytes least ++ body) rest
    ∙ ap (λ (l : List ℕ). (byte_len (bits_of width) ∷ []) ++ l) (append_assoc (signed_bytes least) body rest) in
    ap (front (int_format (length xs))) regrouped ∙ ints-steps (length xs) ((byte_len (bits_of width) ∷ []) ++
    (signed_bytes least ++ (body ++ rest)))
    ∙ rw (code-again width (signed_bytes least ++ (body ++ rest)), least-again least (body ++ rest) small, last) refl

whole-again : (xs : List ℤ) → list_all is_i64 xs ≡ true → whole (int_format (length xs)) (int_spelling xs) ≡ Ok xs
whole-again xs fits =
    ap (λ (l : List ℕ). whole (int_format (length xs)) l) (sym (append-nil (int_spelling xs)))
    ∙ ap (λ (r : Result (List ℤ × List ℕ) ℕ). r >>= ended) (ints-again xs [] fits)

pub is_read_again : (rows : ℕ) → IsReadAgain (int_format rows) (int_writing rows)
unfolding int_writing
is_read_again rows xs bytes e =
    let g = some_from ((eqb (length xs) rows) && list_all is_i64 xs) (int_spelling xs) bytes e in
    let p = both_true (eqb (length xs) rows) (list_all is_i64 xs) g.0 in
    let n : length xs ≡ rows = eqb-true (length xs) rows p.0 in
    ap (whole (int_format rows)) (sym g.1) ∙ ap (λ (k : ℕ). whole (int_format k) (int_spelling xs)) (sym n)
    ∙ whole-again xs p.1

pub writing-is : (rows : ℕ) (xs : List ℤ) (bytes : List ℕ) → int_writing rows xs ≡ Some bytes
    → (length xs ≡ rows) × (bytes ≡ int_spelling xs)
unfolding int_writing
writing-is rows xs bytes e =
    let g = some_from ((eqb (length xs) rows) && list_all is_i64 xs) (int_spelling xs) bytes e in
    let p = both_true (eqb (length xs) rows) (list_all is_i64 xs) g.0 in
    (eqb-true (length xs) rows p.0, sym g.1)
