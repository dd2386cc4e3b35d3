-- A call that took nothing, and then another one.
use Rattle.std.proofs.Common.{◌≡◌, ◌∙◌, ℕ, ◌++◌, List, None, Some, Result, Ok, Err, subst, sym}
use Rattle.std.proofs.KnownBytes.{Keeps-trans}
use Rattle.std.specs.Io.KnownBytes.{Appends, Consumes, Keeps, ReadConsumes, WriteAppends}
use Rattle.std.specs.Prelude.{Option}

kept_consumes : (a b c : Option (List ℕ)) (bytes : List ℕ) → Keeps a b → Consumes b c bytes → Consumes a c bytes
kept_consumes None b c bytes p q = tt
kept_consumes (Some x) None c bytes p q = absurd p
kept_consumes (Some x) (Some y) None bytes p q = absurd q
kept_consumes (Some x) (Some y) (Some z) bytes p q = sym p ∙ q

kept_appends : (a b c : Option (List ℕ)) (bytes : List ℕ) → Keeps a b → Appends b c bytes → Appends a c bytes
kept_appends None b c bytes p q = tt
kept_appends (Some x) None c bytes p q = absurd p
kept_appends (Some x) (Some y) None bytes p q = absurd q
kept_appends (Some x) (Some y) (Some z) bytes p q = subst (λ w. z ≡ w ++ bytes) p q

pub reads_at_last : {E : Type 0} (a b c : Option (List ℕ)) (result : Result ℕ E) (buffer : List ℕ) → Keeps a b
    → ReadConsumes b c result buffer → ReadConsumes a c result buffer
reads_at_last a b c (Ok n) buffer p q = (kept_consumes a b c _ p q.0, q.1)
reads_at_last a b c (Err e) buffer p q = Keeps-trans a b c p q

pub writes_at_last : {E : Type 0} (a b c : Option (List ℕ)) (result : Result ℕ E) (piece : List ℕ) → Keeps a b
    → WriteAppends b c result piece → WriteAppends a c result piece
writes_at_last a b c (Ok n) piece p q = kept_appends a b c _ p q
writes_at_last a b c (Err e) piece p q = Keeps-trans a b c p q
