-- How many visits are left at doors. `None` stands for doors that do not tell it: they say nothing, and do not begin to
-- tell.
use Rattle.std.specs.Prelude.{◌≡◌, ℕ, ◌+◌, Option, None, Some, Result, MatchOption, MatchResult, ⊤}

-- one less is left
abbrev pub IsOneLess : Option ℕ → Option ℕ → Type 0
IsOneLess None None = ⊤
IsOneLess None (Some new) = ⊥
IsOneLess (Some old) None = ⊥
IsOneLess (Some old) (Some new) = old ≡ new + 1

-- none is left
abbrev pub HasNoVisit : Option ℕ → Type 0
HasNoVisit None = ⊤
HasNoVisit (Some left) = left ≡ 0

-- A visit that is given is one less that is left, and without one none is left. An error took none.
abbrev pub NextGives : {V E : Type 0} → Option ℕ → Option ℕ → Result (Option V) E → Type 0
NextGives old new result =
    MatchResult result (λ next. MatchOption next ((new ≡ old) × HasNoVisit new) (λ _. IsOneLess old new))
    (λ _. new ≡ old)
