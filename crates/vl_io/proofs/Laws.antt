-- Laws that callers cite: one transfer after another, and causes that last.
use Rattle.std.proofs.Common.{ℕ, ◌+◌, ◌≤◌, List, [], ◌∷◌, ◌++◌, None, Some, refl, sym, ap, ◌∙◌, append_assoc, append-nil, take, drop, arith, unsigned_abs, ℤ}
use Rattle.std.proofs.Math.Seq.{take-add}
use Rattle.std.specs.Prelude.{Option}
use Rattle.vl_io.specs.Bytes.{AddsPiece, Appends, Consumes}
use Rattle.vl_io.specs.Faults.{Rose}
use Rattle.vl_io.specs.Moments.{Tells, FirstTold}

pub Appends-nil : (a : Option (List ℕ)) → Appends a a []
Appends-nil None = tt
Appends-nil (Some x) = sym (append-nil x)

pub Appends-trans : (a b c : Option (List ℕ)) (bs cs : List ℕ) → Appends a b bs → Appends b c cs → Appends a c
    (bs ++ cs)
Appends-trans None None None bs cs p q = tt
Appends-trans None None (Some z) bs cs p q = absurd q
Appends-trans None (Some y) c bs cs p q = absurd p
Appends-trans (Some x) None c bs cs p q = absurd p
Appends-trans (Some x) (Some y) None bs cs p q = absurd q
Appends-trans (Some x) (Some y) (Some z) bs cs p q = q ∙ ap (λ l. l ++ cs) p ∙ append_assoc x bs cs

-- two fronts, one after the other
pub Appends-more : (a b c : Option (List ℕ)) (n m : ℕ) (bytes : List ℕ) → Appends a b (take n bytes) → Appends b c
    (take m (drop n bytes)) → Appends a c (take (n + m) bytes)
Appends-more a b c n m bytes p q = rw take-add (Appends-trans a b c _ _ p q)

pub Consumes-nil : (a : Option (List ℕ)) → Consumes a a []
Consumes-nil None = tt
Consumes-nil (Some x) = refl

pub Consumes-trans : (a b c : Option (List ℕ)) (bs cs : List ℕ) → Consumes a b bs → Consumes b c cs → Consumes a c
    (bs ++ cs)
Consumes-trans None None None bs cs p q = tt
Consumes-trans None None (Some z) bs cs p q = absurd q
Consumes-trans None (Some y) c bs cs p q = absurd p
Consumes-trans (Some x) None c bs cs p q = absurd p
Consumes-trans (Some x) (Some y) None bs cs p q = absurd q
Consumes-trans (Some x) (Some y) (Some z) bs cs p q = p ∙ ap (λ l. bs ++ l) q ∙ sym (append_assoc bs cs z)

-- a list of the bytes that were taken so far, and then one more piece
pub Consumes-piece : (a b c : Option (List ℕ)) (before now : List ℕ) → Consumes a b before → AddsPiece b c before now
    → Consumes a c now
Consumes-piece a b c before now p q = rw q.2 (Consumes-trans a b c _ _ p q.1)

-- one piece after another
pub AddsPiece-trans : (a b c : Option (List ℕ)) (first before now : List ℕ) → AddsPiece a b first before
    → AddsPiece b c before now → AddsPiece a c first now
AddsPiece-trans a b c first before now p q =
    (p.0 ++ q.0, Consumes-trans a b c _ _ p.1 q.1, q.2 ∙ ap (λ l. l ++ q.0) p.2 ∙ append_assoc first p.0 q.0)

-- a count that rose has risen for good
pub Rose-later : (a b c : ℕ) → Rose a b → b ≤ c → Rose a c
Rose-later a b c p q = omega arith

-- a count that rose since b has risen since any earlier count
pub Rose-earlier : (a b c : ℕ) → a ≤ b → Rose b c → Rose a c
Rose-earlier a b c p q = omega arith

-- the only moment given is the first
pub FirstTold-from_one : (a b : Option (List ℕ)) (t : ℤ) → Tells a b t → FirstTold a b (unsigned_abs t)
FirstTold-from_one None None t p = tt
FirstTold-from_one None (Some y) t p = absurd p
FirstTold-from_one (Some x) None t p = tt
FirstTold-from_one (Some x) (Some y) t p = ([], p)

-- what was first stays first
pub FirstTold-later : (a b c : Option (List ℕ)) (s : ℕ) (t : ℤ) → FirstTold a b s → Tells b c t → FirstTold a c s
FirstTold-later None None None s t p q = tt
FirstTold-later None None (Some z) s t p q = absurd q
FirstTold-later None (Some y) c s t p q = absurd p
FirstTold-later (Some x) None None s t p q = tt
FirstTold-later (Some x) None (Some z) s t p q = absurd q
FirstTold-later (Some x) (Some y) None s t p q = tt
FirstTold-later (Some x) (Some y) (Some z) s t p q = (
  p.0 ++ unsigned_abs t ∷ [],
  q ∙ ap (λ l. l ++ unsigned_abs t ∷ []) p.1 ∙ append_assoc x (s ∷ p.0) (unsigned_abs t ∷ []),
)
