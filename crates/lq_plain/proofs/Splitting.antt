-- The first occurrence of a text in a value, and where a value may be cut.
use Rattle.std.proofs.Common.{◌≡◌, ℕ, zero, suc, ◌+◌, ◌<◌, ◌≤◌, true, false, cond, List, [], ◌∷◌, Option, None, Some}
use Rattle.std.proofs.Common.{refl, rules, ap, ◌∙◌, arith, below_more, drop, length, nat_eq, option_map, take}
use Rattle.std.specs.List.{starts_with}
use Rattle.std.specs.Str.{IsCharBoundary, IsUtf8}
use Rattle.std.proofs.lemmas.Str.{IsCharBoundary-start}
use Rattle.vl_row.specs.Field.{is_empty}
use Rattle.lq_ast.specs.Made.{split_once}
use Rattle.word_tokens.proofs.Places.{IsCharBoundary-OccursAt, IsCharBoundary-after_OccursAt, OccursAt-starts_with}

-- The text stands at none of the places before this one.
pub record StandsLater (text value : List ℕ) (place : ℕ) : Type 0 where
  pub not_at : (k : ℕ) → k < place → starts_with nat_eq (drop k value) text ≡ false

pub later_first : (text value : List ℕ) → StandsLater text value 0
later_first text value = record { not_at = λ k below. absurd (omega arith) }

pub later_more : (text value : List ℕ) (place : ℕ) → StandsLater text value place
    → starts_with nat_eq (drop place value) text ≡ false → StandsLater text value (place + 1)
later_more text value place later here = record { not_at = below_more _ _ later.not_at here }

later_tail : (text : List ℕ) (byte : ℕ) (value : List ℕ) (place : ℕ) → StandsLater text (byte ∷ value) (suc place)
    → StandsLater text value place
later_tail text byte value place later = record { not_at = λ k below. later.not_at (suc k) (omega arith) }

abbrev Parts : Type 0
Parts = Option (List ℕ × List ℕ)

abbrev with_byte : ℕ → Parts → Parts
with_byte byte found = option_map (λ parts. (byte ∷ parts.0, parts.1)) found

pub split_found : (text value : List ℕ) (place : ℕ) → StandsLater text value place → place ≤ length value
    → starts_with nat_eq (drop place value) text ≡ true
    → split_once text value ≡ Some (take place value, drop (place + length text) value)
split_found [] [] zero later within here = refl
split_found (b ∷ text) [] zero later within here = let bad : ⊥ = cc in absurd bad
split_found text [] (suc place) later within here = absurd (omega arith)
split_found text (byte ∷ value) zero later within here =
    let none : length text ≡ 0 + length text = omega arith in
    ap (λ t. cond t (Some ([], drop (length text) (byte ∷ value))) (with_byte byte (split_once text value))) here
    ∙ ap (λ n. Some ([], drop n (byte ∷ value))) none
split_found text (byte ∷ value) (suc place) later within here =
    let rest = split_found text value place (later_tail text byte value place later) (omega arith) here in
    let next : suc (place + length text) ≡ suc place + length text = omega arith in
    ap (λ t. cond t (Some ([], drop (length text) (byte ∷ value))) (with_byte byte (split_once text value)))
    (later.not_at 0 (omega arith))
    ∙ ap (with_byte byte) rest ∙ ap (λ n. Some (byte ∷ take place value, drop n (byte ∷ value))) next

pub split_missing : (text value : List ℕ) (place : ℕ) → StandsLater text value place → length value < place
    → split_once text value ≡ None
split_missing [] [] place later ends = let bad = later.not_at 0 (omega arith) in absurd cc
split_missing (b ∷ text) [] place later ends =
    let some : is_empty (b ∷ text) ≡ false = search rules in ap (λ t. cond t (Some ([], [])) None) some
split_missing text (byte ∷ value) zero later ends = absurd (omega arith)
split_missing text (byte ∷ value) (suc place) later ends =
    let rest = split_missing text value place (later_tail text byte value place later) (omega arith) in
    ap (λ t. cond t (Some ([], drop (length text) (byte ∷ value))) (with_byte byte (split_once text value)))
    (later.not_at 0 (omega arith))
    ∙ ap (with_byte byte) rest

-- ---- where a value may be cut

-- An empty text stands at the first place.
none_first : (value : List ℕ) (place : ℕ) → StandsLater [] value place → place ≡ 0
none_first value zero later = refl
none_first value (suc place) later = let bad = later.not_at 0 (omega arith) in absurd cc

pub cut_before : (text value : List ℕ) (place : ℕ) → IsUtf8 text → IsUtf8 value → StandsLater text value place
    → starts_with nat_eq (drop place value) text ≡ true → IsCharBoundary value place
cut_before [] value place of_text of_value later here =
    rw (none_first value place later) (IsCharBoundary-start value of_value)
cut_before (byte ∷ bytes) value place of_text of_value later here =
    let filled : 0 < length (byte ∷ bytes) = omega arith in
    IsCharBoundary-OccursAt value (byte ∷ bytes) place of_text filled
    (OccursAt-starts_with value (byte ∷ bytes) place filled here)

pub cut_after : (text value : List ℕ) (place : ℕ) → IsUtf8 text → IsUtf8 value → StandsLater text value place
    → starts_with nat_eq (drop place value) text ≡ true → IsCharBoundary value (place + length text)
cut_after [] value place of_text of_value later here =
    let none : place + 0 ≡ 0 = omega (arith, none_first value place later) in
    rw none (IsCharBoundary-start value of_value)
cut_after (byte ∷ bytes) value place of_text of_value later here =
    let filled : 0 < length (byte ∷ bytes) = omega arith in
    IsCharBoundary-after_OccursAt value (byte ∷ bytes) place of_value of_text filled
    (OccursAt-starts_with value (byte ∷ bytes) place filled here)
