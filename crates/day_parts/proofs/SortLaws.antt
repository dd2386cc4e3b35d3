-- Rows in the order of their days.
use Rattle.std.proofs.Common.{◌≡◌, ℕ, Bool, List, [], ◌∷◌, cond, eqb, refl, sym, ap, ◌∙◌, arith}
use Rattle.std.specs.Prelude.{◌&&◌, not}
use Rattle.std.specs.Fn.{Called, ComputesKey}
use Rattle.std.specs.List.{filter}
use Rattle.std.specs.List.Sorted.{IsStableByKeyClosure, ties}
use Rattle.std.specs.Ordering.{is_lt, nat_cmp}
use Rattle.std.proofs.lemmas.Bool.Decides.{nat_tests}
use Rattle.std.proofs.lemmas.Fn.{always_returns_same}
use denote.Param.Members.{Mut}
use denote.Ref.{Bor}
use Rattle.day_model.specs.Days.{DayRows}
use Rattle.day_parts.specs.Runs.{is_day}

tie : (d k : ℕ) → (not (is_lt (nat_cmp d k)) && not (is_lt (nat_cmp k d))) ≡ eqb k d
tie d k = grind (arith, nat_tests)

same-tests : (day : ℕ) (picks : List DayRows)
    → filter (ties (λ (a b : DayRows). is_lt (nat_cmp a.0 b.0)) (day, [])) picks ≡ filter (is_day day) picks
same-tests day [] = refl
same-tests day (r ∷ picks) =
    ap (λ (t : Bool). cond t (r ∷ filter (ties (λ (a b : DayRows). is_lt (nat_cmp a.0 b.0)) (day, [])) picks) (filter (ties
    (λ (a b : DayRows). is_lt (nat_cmp a.0 b.0)) (day, [])) picks)) (tie day r.0)
    ∙ ap (λ (l : List DayRows). cond (eqb r.0 day) (r ∷ l) l) (same-tests day picks)

-- a stable sort by the days
pub stable-days : {F : Type 0} {g : Mut F (Bor DayRows × Unit {0}) ℕ} {f : F} (xs ys : List DayRows)
    → IsStableByKeyClosure g nat_cmp f xs ys
    → ((a : Bor DayRows × Unit {0}) (day : ℕ) (f' : F) → Called g f a day f' → (day ≡ a.0.now.0) × (f' ≡ f))
    → (day : ℕ) → filter (is_day day) ys ≡ filter (is_day day) xs
stable-days {g = g} {f = f} xs ys stable answers day =
    let computes : ComputesKey g (λ (r : DayRows). r.0) f = always_returns_same g (λ a d. d ≡ a.0.now.0) f answers in
    sym (same-tests day ys) ∙ stable (λ (r : DayRows). r.0) computes (day, []) ∙ same-tests day xs
