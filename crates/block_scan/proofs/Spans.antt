-- Integers between two ends.
use Rattle.std.proofs.Common.{◌≡◌, ◌∙◌, ◌-◌, ◌&&◌, ℤ, Bool, true, false, List, FitsSigned, pos, ◌+ℤ◌, ◌-ℤ◌, ◌≤ℤ◌, w64}
use Rattle.std.proofs.Common.{ap, arith, get_or, int_le, length, refl, subst, sym}
use Rattle.std.proofs.lemmas.Int.{ints}
use Rattle.std.specs.Fmt.{signed_decimal}
use Rattle.std.specs.List.{All}
use Rattle.std.proofs.lemmas.List.{get_or_default}
use Rattle.std.specs.Option.{option_map_or}
use Rattle.log_model.specs.Order.{number_of}
use Rattle.log_model.proofs.ValueOrder.{number_of-is}
use Rattle.block_body.specs.Outlines.{DoNotFall}
use Rattle.lq_ast.specs.Holds.{is_recent, is_within}

-- the last nanoseconds before a moment
pub recent_is : (now span time low high : ℤ) → low ≡ (now -ℤ span) +ℤ pos 1 → high ≡ now
    → is_within low high time ≡ is_recent now span time
recent_is now span time low high first last = grind (arith, ints)

both_true : (a b : Bool) → a && b ≡ true → (a ≡ true) × (b ≡ true)
both_true true b e = (refl, e)
both_true false b e = absurd (let bad : false ≡ true = e in cc)

within_two : (low high first last time : ℤ) → is_within low high first ≡ true → is_within low high last ≡ true
    → first ≤ℤ time → time ≤ℤ last → is_within low high time ≡ true
within_two low high first last time f l above below =
    let begins = (both_true (int_le low first) (int_le first high) f).0 in
    let ends = (both_true (int_le low last) (int_le last high) l).1 in
    grind (arith, ints)

-- times that do not fall are between the ends if the first and the last are
pub all_within : (low high : ℤ) (times : List ℤ) (d : ℤ) → DoNotFall times
    → is_within low high (get_or times 0 d) && is_within low high (get_or times (length times - 1) d) ≡ true
    → All (λ time. is_within low high time ≡ true) times
all_within low high times d order h = λ k e within.
    let parts = both_true (is_within low high (get_or times 0 d)) _ h in
    let there = get_or_default times k d e within in
    subst (λ t. is_within low high t ≡ true) there
    (within_two low high (get_or times 0 d) (get_or times (length times - 1) d) (get_or times k d) parts.0 parts.1
    (order 0 k d (omega arith) within) (order k (length times - 1) d (omega arith) (omega arith)))

-- what is asked of the decimal text of an integer of 64 bits
pub number_asked : (low high int : ℤ) (asked : Bool) → FitsSigned w64 int
    → asked ≡ option_map_or (is_within low high) (number_of (signed_decimal int)) false → is_within low high int ≡ asked
number_asked low high int asked fits e =
    sym (e ∙ ap (λ o. option_map_or (is_within low high) o false)
    (number_of-is (signed_decimal int) int (record { spelled = refl; fits = fits })))
