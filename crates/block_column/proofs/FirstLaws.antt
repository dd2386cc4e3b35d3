-- Which values are not of an earlier kind.
use Rattle.std.proofs.Common.{◌≡◌, ◌≢◌, ℕ, zero, suc, ◌+◌, ◌-◌, ◌<◌, ◌≤◌, true, false, List, [], ◌∷◌, length, get_or, map}
use Rattle.std.proofs.Common.{Some, ℤ, FitsSigned, w64, refl, sym, ap, ◌∙◌, arith}
use Rattle.std.specs.Prelude.{bytes_eq, not}
use Rattle.std.specs.Fmt.{signed_decimal}
use Rattle.std.specs.List.{list_all}
use Rattle.std.proofs.lemmas.Bool.{false_from_ne_true}
use Rattle.std.proofs.lemmas.List.Folds.{list_all-map, list_all_at}
use Rattle.std.proofs.lemmas.Slice.Eq.{bytes_eq-Decides}
use Rattle.byte_format.proofs.Cases.{both_true, second_false}
use Rattle.col_codec.specs.Ints.{is_i64}
use Rattle.col_codec.specs.Ranges.{fits-is_i64}
use Rattle.log_model.specs.Field.{is_empty}
use Rattle.log_model.specs.Order.{number_of}
use Rattle.log_model.proofs.ValueOrder.{number_of-is}
use Rattle.block_model.specs.Distinct.{distinct}
use Rattle.block_model.proofs.Distinct.{distinct-pass}
use Rattle.block_model.proofs.Same.{one-distinct}
use Rattle.block_column.specs.Kinds.{are_integers, first_of, is_constant, is_number}
use Rattle.block_column.proofs.KindLaws.{constant-is, filled-constant}

-- ---- integers that differ have texts that differ

same-decimals : (a b : ℤ) → FitsSigned w64 a → FitsSigned w64 b → signed_decimal a ≡ signed_decimal b → a ≡ b
same-decimals a b f g e =
    let one : number_of (signed_decimal a) ≡ Some a =
    number_of-is (signed_decimal a) a (record { spelled = refl; fits = f }) in
    let other : number_of (signed_decimal b) ≡ Some b =
    number_of-is (signed_decimal b) b (record { spelled = refl; fits = g }) in
    let both : Some a ≡ Some b = sym one ∙ ap number_of e ∙ other in
    cc

fits-at : (zs : List ℤ) (i : ℕ) (d : ℤ) → i < length zs → list_all is_i64 zs ≡ true → FitsSigned w64 (get_or zs i d)
fits-at [] i d lt e = absurd (omega (arith, lt))
fits-at (z ∷ zs) zero d lt e = fits-is_i64 z (both_true (is_i64 z) (list_all is_i64 zs) e).0
fits-at (z ∷ zs) (suc i) d lt e = fits-at zs i d (omega (arith, lt)) (both_true (is_i64 z) (list_all is_i64 zs) e).1

pub two-integers : (zs : List ℤ) (i : ℕ) (d : ℤ) → 0 < i → i < length zs → list_all is_i64 zs ≡ true
    → get_or zs 0 d ≢ get_or zs i d → is_constant (map signed_decimal zs) ≡ false
two-integers [] i d some lt e ne = refl
two-integers (z ∷ zs) zero d some lt e ne = absurd (omega (arith, some))
two-integers (z ∷ zs) (suc i) d some lt e ne =
    let parts = both_true (is_i64 z) (list_all is_i64 zs) e in
    let within : i < length zs = omega (arith, lt) in
    let other : bytes_eq (signed_decimal z) (signed_decimal (get_or zs i d)) ≡ false =
    false_from_ne_true (bytes_eq (signed_decimal z) (signed_decimal (get_or zs i d))) (λ same. ne (same-decimals z
    (get_or zs i d) (fits-is_i64 z parts.0) (fits-at zs i d within parts.1)
    ((bytes_eq-Decides (signed_decimal z) (signed_decimal (get_or zs i d))).0 same))) in
    second_false (not (is_empty (signed_decimal z))) (list_all (bytes_eq (signed_decimal z)) (map signed_decimal zs))
    (list_all-map (bytes_eq (signed_decimal z)) signed_decimal zs
    ∙ list_all_at (λ x. bytes_eq (signed_decimal z) (signed_decimal x)) zs i d within other)

-- ---- a dictionary of two texts or more, one of which is no number

pub two-texts : (held ts : List (List ℕ)) → held ≡ distinct ts → 2 ≤ length held → is_constant ts ≡ false
two-texts held ts e two =
    false_from_ne_true (is_constant ts) (λ c.
    let one = one-distinct (first_of ts) (length ts) (filled-constant ts c) in
    let single : first_of ts ∷ [] ≡ held = one ∙ ap distinct (constant-is ts c) ∙ sym e in
    omega (arith, two, ap length single))

pub not-numbers : (held ts : List (List ℕ)) → held ≡ distinct ts → list_all is_number held ≡ false
    → are_integers ts ≡ false
not-numbers held ts e none =
    false_from_ne_true (are_integers ts) (λ all.
    let each : list_all is_number held ≡ true = ap (list_all is_number) e ∙ distinct-pass is_number ts all in
    let no : true ≡ false = sym each ∙ none in
    cc)
