-- Texts that are put into a set, one after another.
use Rattle.std.proofs.Common.{◌≡◌, ℕ, Bool, true, false, ◌||◌, List, cond, refl, sym, ◌∙◌}
use Rattle.std.specs.Prelude.{bytes_eq}
use Rattle.std.proofs.lemmas.Slice.Eq.{bytes_eq-Decides}

if_so : (a b c : Bool) → (a ≡ true → c ≡ true) → (c ≡ true → a ≡ true) → cond a true b ≡ (b || c)
if_so true true c f g = refl
if_so true false c f g = sym (f refl)
if_so false true c f g = refl
if_so false false true f g = g refl
if_so false false false f g = refl

turned : (a b : List ℕ) → bytes_eq a b ≡ true → bytes_eq b a ≡ true
turned a b e = (bytes_eq-Decides b a).1 (sym ((bytes_eq-Decides a b).0 e))

-- a set that gained a text has it beside the others
pub with_one : (text value : List ℕ) (old new : Bool) → new ≡ cond (bytes_eq text value) true old
    → new ≡ (old || bytes_eq value text)
with_one text value old new e =
    e ∙ if_so (bytes_eq text value) old (bytes_eq value text) (turned text value) (turned value text)
