-- The result of parsing a timestamp.
use Rattle.std.proofs.Common.{◌≡◌, ℤ, pos, ◌^◌, unsigned_abs, List, ℕ, ◌&&◌, cond, true, int_le, int_lt}
use Rattle.std.proofs.Common.{Option, Some, None, refl, ap, ◌∙◌, arith}
use Rattle.std.proofs.lemmas.Int.{ints}
use Rattle.std.specs.Option.{option_map_or}
use Rattle.log_model.specs.MomentText.{IsMomentInRange, SpellsMoment}
use Rattle.lq_ast.proofs.Sorted.{split_bool}
use Rattle.lq_ast.specs.Groups.{in_range, moment_of}
use Rattle.time_text.proofs.Spelling.{moment_again, moment_takes}
use Rattle.time_text.specs.Reading.{moment_at}
use Rattle.time_text.specs.declared.fault.TimeFault.{TimeFault}
use Rattle.time_text.specs.declared.fault.TimeFault.TheVariants.{NotATime, OutOfRange}

in_range_is : (m : ℤ) → IsMomentInRange m → in_range m ≡ Some (unsigned_abs m)
in_range_is m h = grind (arith, ints, h.0, h.1)

range_from : (m : ℤ) → int_le (pos 0) m && int_lt m (pos (2 ^ 63)) ≡ true → IsMomentInRange m
range_from m e = (grind (arith, ints), grind (arith, ints))

not_in_range : (m : ℤ) → (IsMomentInRange m → ⊥) → in_range m ≡ None
not_in_range m h =
    split_bool (int_le (pos 0) m && int_lt m (pos (2 ^ 63))) (λ t. cond t (Some (unsigned_abs m)) None ≡ None)
    (λ e. absurd (h (range_from m e))) (λ e. refl)

pub moment_is : (text : List ℕ) (m : ℤ) → SpellsMoment text m → IsMomentInRange m → moment_of text ≡ Some (unsigned_abs m)
moment_is text m spells range =
    ap (λ o. option_map_or in_range o None) (moment_again text m spells) ∙ in_range_is m range

none_said : (text : List ℕ) (o : Option ℤ) → moment_at text ≡ o → ((m : ℤ) → SpellsMoment text m → ⊥) → o ≡ None
none_said text (Some m) e h = absurd (h m (moment_takes text m e))
none_said text None e h = refl

pub no_moment : (text : List ℕ) (fault : TimeFault)
    → (fault ≡ NotATime → (m : ℤ) → SpellsMoment text m → ⊥)
    → (fault ≡ OutOfRange → (m : ℤ) × SpellsMoment text m × (IsMomentInRange m → ⊥)) → moment_of text ≡ None
no_moment text NotATime h k =
    ap (λ o. option_map_or in_range o None) (none_said text (moment_at text) refl (h refl))
no_moment text OutOfRange h k =
    let is = k refl in
    ap (λ o. option_map_or in_range o None) (moment_again text is.0 is.1) ∙ not_in_range is.0 is.2
