-- The last number of a list.
use Rattle.std.proofs.Common.{◌≡◌, ℕ, List, [], ◌∷◌, ◌++◌, refl, ap, sym, ◌∙◌}
use Rattle.turn_lock_tests.specs.Log.{last_of}

pub last_of_push : (xs : List ℕ) (x : ℕ) → last_of (xs ++ x ∷ []) ≡ x
last_of_push [] x = refl
last_of_push (y ∷ []) x = refl
last_of_push (y ∷ z ∷ xs) x = last_of_push (z ∷ xs) x

-- a list that one number was pushed to is what it was and its last number
pub last_added : (new old seen : List ℕ) (x : ℕ) → new ≡ old ++ x ∷ [] → old ≡ seen
    → (new ≡ seen ++ (last_of new) ∷ []) × (last_of new ≡ x)
last_added new old seen x pushed same =
    let last : last_of new ≡ x = ap last_of pushed ∙ last_of_push old x in
    (pushed ∙ ap (λ o. o ++ x ∷ []) same ∙ ap (λ y. seen ++ y ∷ []) (sym last), last)
