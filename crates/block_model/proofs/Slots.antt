-- Slots that hold texts.
use Rattle.std.proofs.Common.{◌≡◌, ℕ, zero, suc, ◌<◌, Bool, true, List, [], ◌∷◌, length, map, get_or, refl, arith}
use Rattle.std.specs.Prelude.{bytes_eq, replicate, slice_set}
use Rattle.std.specs.List.{list_all, list_any}
use Rattle.std.proofs.lemmas.Slice.Eq.{bytes_eq-Decides}
use Rattle.block_model.proofs.Distinct.{right_true}
use Rattle.byte_format.proofs.Cases.{both_true}

-- a text that stands in a slot is among them
pub in-slot : {X : Type 0} (f : X → List ℕ) (text : List ℕ) (slots : List X) (i : ℕ) (d : X) → i < length slots
    → text ≡ f (get_or slots i d) → list_any (bytes_eq text) (map f slots) ≡ true
in-slot f text [] i d lt e = absurd (omega (arith, lt))
in-slot f text (s ∷ ss) zero d lt e =
    let same : bytes_eq text (f s) ≡ true = (bytes_eq-Decides text (f s)).1 e in
    rw same refl
in-slot f text (s ∷ ss) (suc i) d lt e =
    right_true (bytes_eq text (f s)) (list_any (bytes_eq text) (map f ss)) (in-slot f text ss i d (omega (arith, lt)) e)

-- what passes the test for all passes it after another text was put
pub all-put : {X : Type 0} (f : X → List ℕ) (p : List ℕ → Bool) (slots : List X) (i : ℕ) (x : X)
    → list_all p (map f slots) ≡ true → p (f x) ≡ true → list_all p (map f (slice_set slots i x)) ≡ true
all-put f p [] i x all one = refl
all-put f p (s ∷ ss) zero x all one =
    rw one (both_true (p (f s)) (list_all p (map f ss)) all).1
all-put f p (s ∷ ss) (suc i) x all one =
    let parts = both_true (p (f s)) (list_all p (map f ss)) all in
    rw parts.0 (all-put f p ss i x parts.1 one)

-- the text that was put is among them
pub put-there : {X : Type 0} (f : X → List ℕ) (slots : List X) (i : ℕ) (x : X) → i < length slots
    → list_any (bytes_eq (f x)) (map f (slice_set slots i x)) ≡ true
put-there f [] i x lt = absurd (omega (arith, lt))
put-there f (s ∷ ss) zero x lt =
    let same : bytes_eq (f x) (f x) ≡ true = (bytes_eq-Decides (f x) (f x)).1 refl in
    rw same refl
put-there f (s ∷ ss) (suc i) x lt =
    right_true (bytes_eq (f x) (f s)) (list_any (bytes_eq (f x)) (map f (slice_set ss i x))) (put-there f ss i x
    (omega (arith, lt)))

-- what holds of each holds of the one in a slot
pub each-slot : {X : Type 0} (f : X → List ℕ) (p : List ℕ → Bool) (slots : List X) (i : ℕ) (d : X) → i < length slots
    → list_all p (map f slots) ≡ true → p (f (get_or slots i d)) ≡ true
each-slot f p [] i d lt all = absurd (omega (arith, lt))
each-slot f p (s ∷ ss) zero d lt all = (both_true (p (f s)) (list_all p (map f ss)) all).0
each-slot f p (s ∷ ss) (suc i) d lt all =
    each-slot f p ss i d (omega (arith, lt)) (both_true (p (f s)) (list_all p (map f ss)) all).1

-- equal texts
pub all-same : {X : Type 0} (f : X → List ℕ) (p : List ℕ → Bool) (n : ℕ) (x : X) → p (f x) ≡ true
    → list_all p (map f (replicate n x)) ≡ true
all-same f p zero x one = refl
all-same f p (suc n) x one = rw one (all-same f p n x one)
