-- The texts of all values.
use Rattle.std.proofs.Common.{◌≡◌, ℕ, ℤ, ◌+◌, ◌<◌, List, [], ◌∷◌, ◌++◌, length, get_or, take}
use Rattle.std.proofs.Common.{Some, sym, ap, ◌∙◌, arith}
use Rattle.std.specs.List.{slice_get}
use Rattle.std.proofs.lemmas.List.{take_more}
use Rattle.std.proofs.lemmas.Option.{slice_get-get_or}
use Rattle.byte_format.proofs.Cases.{some_is}

pub one-more : (found : List (List ℕ)) (i : ℕ) (t : List ℕ) → i < length found → slice_get found i ≡ Some t
    → take (i + 1) found ≡ take i found ++ t ∷ []
one-more found i t lt e =
    let same : get_or found i [] ≡ t = some_is (get_or found i []) t (sym (slice_get-get_or found i [] lt) ∙ e) in
    take_more found i [] lt ∙ ap (λ (x : List ℕ). take i found ++ x ∷ []) same

pub one-integer-more : (found : List ℤ) (i : ℕ) (z : ℤ) → i < length found → slice_get found i ≡ Some z
    → take (i + 1) found ≡ take i found ++ z ∷ []
one-integer-more found i z lt e =
    let same : get_or found i z ≡ z = some_is (get_or found i z) z (sym (slice_get-get_or found i z lt) ∙ e) in
    take_more found i z lt ∙ ap (λ (x : ℤ). take i found ++ x ∷ []) same

pub text-at : (texts : List (List ℕ)) (i : ℕ) (t : List ℕ) → i < length texts → slice_get texts i ≡ Some t
    → get_or texts i [] ≡ t
text-at texts i t lt e = some_is (get_or texts i []) t (sym (slice_get-get_or texts i [] lt) ∙ e)

pub integer-at : (zs : List ℤ) (i : ℕ) (z d : ℤ) → i < length zs → slice_get zs i ≡ Some z → get_or zs i d ≡ z
integer-at zs i z d lt e = some_is (get_or zs i d) z (sym (slice_get-get_or zs i d lt) ∙ e)
