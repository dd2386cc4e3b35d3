-- Lists of conditions of which all hold, or some.
use Rattle.std.proofs.Common.{◌≡◌, ◌&&◌, ◌||◌, List, [], ◌∷◌, ◌++◌, map, refl, ap}
use Rattle.std.specs.Prelude.{flat_map}
use Rattle.std.specs.List.{list_all, list_any}
use Rattle.lq_ast.specs.Condition.{Condition, conditions}
use Rattle.lq_ast.specs.Holds.{are_all_met, is_met, is_some_met}
use Rattle.lq_ast.specs.Patterns.{patterns_among, patterns_of}
use Rattle.lq_ast.specs.Subject.{Subject}

module _ {X : Type 0} (mean : X → Condition) where
  pub all_met-list : (s : Subject) (xs : List X)
      → list_all (λ x. is_met (mean x) s) xs ≡ are_all_met (conditions (map mean xs)) s
  all_met-list s [] = refl
  all_met-list s (x ∷ xs) = ap (λ b. is_met (mean x) s && b) (all_met-list s xs)

  pub some_met-list : (s : Subject) (xs : List X)
      → list_any (λ x. is_met (mean x) s) xs ≡ is_some_met (conditions (map mean xs)) s
  some_met-list s [] = refl
  some_met-list s (x ∷ xs) = ap (λ b. is_met (mean x) s || b) (some_met-list s xs)

  pub patterns_among-list : (xs : List X)
      → flat_map (λ x. patterns_of (mean x)) xs ≡ patterns_among (conditions (map mean xs))
  patterns_among-list [] = refl
  patterns_among-list (x ∷ xs) = ap (λ patterns. patterns_of (mean x) ++ patterns) (patterns_among-list xs)
