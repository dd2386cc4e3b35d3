-- A text says the moment that its grammar spells, if that is in range, and no other.
use Rattle.std.proofs.Common.{◌≡◌, ◌↔◌, ℕ, ◌^◌, Bool, true, false, cond, ◌&&◌, List, ℤ, pos, int_le, int_lt}
use Rattle.std.proofs.Common.{unsigned_abs, Option, Some, None, refl, ap, ◌∙◌, subst, arith}
use Rattle.std.proofs.lemmas.Int.{ints}
use Rattle.std.specs.Option.{option_map_or}
use Rattle.vl_row.specs.MomentText.{IsMomentInRange, SpellsMoment}
use Rattle.lq_ast.specs.Groups.{SaysMoment, in_range, moment_of}
use Rattle.lq_ast.proofs.Sorted.{split_bool}
use Rattle.time_text.proofs.Spelling.{moment_again, moment_takes}
use Rattle.time_text.specs.Reading.{moment_at}
use Rattle.time_text.specs.declared.fault.TimeFault.{TimeFault}
use Rattle.time_text.specs.declared.fault.TimeFault.TheVariants.{NotATime, OutOfRange}

in_range_is : (moment : ℤ) → IsMomentInRange moment → in_range moment ≡ Some (unsigned_abs moment)
in_range_is moment h = grind (arith, ints, h.0, h.1)

range_from : (moment : ℤ) → int_le (pos 0) moment && int_lt moment (pos (2 ^ 63)) ≡ true → IsMomentInRange moment
range_from moment e = (grind (arith, ints), grind (arith, ints))

not_in_range : (moment : ℤ) → (IsMomentInRange moment → ⊥) → in_range moment ≡ None
not_in_range moment h =
    split_bool (int_le (pos 0) moment && int_lt moment (pos (2 ^ 63)))
    (λ t. cond t (Some (unsigned_abs moment)) None ≡ None)
    (λ e. absurd (h (range_from moment e))) (λ e. refl)

pub moment_is : (text : List ℕ) (moment : ℤ) → SpellsMoment text moment → IsMomentInRange moment
    → moment_of text ≡ Some (unsigned_abs moment)
moment_is text moment spells range =
    ap (λ o. option_map_or in_range o None) (moment_again text moment spells) ∙ in_range_is moment range

none_said : (text : List ℕ) (o : Option ℤ) → moment_at text ≡ o → ((moment : ℤ) → SpellsMoment text moment → ⊥)
    → o ≡ None
none_said text (Some moment) e h = absurd (h moment (moment_takes text moment e))
none_said text None e h = refl

-- where reading a text has a fault, it says no moment
pub no_moment : (text : List ℕ) (fault : TimeFault)
    → (fault ≡ NotATime → (moment : ℤ) → SpellsMoment text moment → ⊥)
    → (fault ≡ OutOfRange → (moment : ℤ) × SpellsMoment text moment × (IsMomentInRange moment → ⊥))
    → moment_of text ≡ None
no_moment text NotATime h k =
    ap (λ o. option_map_or in_range o None) (none_said text (moment_at text) refl (h refl))
no_moment text OutOfRange h k =
    let is = k refl in
    ap (λ o. option_map_or in_range o None) (moment_again text is.0 is.1) ∙ not_in_range is.0 is.2

-- ---- the law

from_read : (text : List ℕ) (moment : ℕ) (read : Option ℤ) → moment_at text ≡ read
    → option_map_or in_range read None ≡ Some moment → SaysMoment text moment
from_read text moment None e h = let bad : ⊥ = cc in absurd bad
from_read text moment (Some said) e h = by_test (int_le (pos 0) said && int_lt said (pos (2 ^ 63))) refl h
  where
    by_test : (b : Bool) → int_le (pos 0) said && int_lt said (pos (2 ^ 63)) ≡ b
        → cond b (Some (unsigned_abs said)) None ≡ Some moment → SaysMoment text moment
    by_test false out k = let bad : ⊥ = cc in absurd bad
    by_test true within k =
        let range = range_from said within in
        let same : unsigned_abs said ≡ moment = cc in
        let is : said ≡ pos moment = grind (arith, ints, range.0) in
        let Says : ℤ → Type 0 = λ z. SpellsMoment text z × IsMomentInRange z in
        subst Says is (moment_takes text said e, range)

pub moment_of_lem : (text : List ℕ) (moment : ℕ) → (moment_of text ≡ Some moment) ↔ SaysMoment text moment
moment_of_lem text moment =
    (λ e. from_read text moment (moment_at text) refl e, λ says. moment_is text (pos moment) says.0 says.1)
