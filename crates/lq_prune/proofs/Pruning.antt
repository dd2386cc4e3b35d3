-- A block that is not admitted has no row that holds.
use Rattle.std.proofs.Common.{◌≡◌, ℤ, Bool, true, false, cond, List, [], ◌∷◌, ◌++◌, refl, sym, ap, ◌∙◌}
use Rattle.std.specs.Prelude.{filter, flat_map}
use Rattle.std.specs.List.{AllByRecursion}
use Rattle.std.proofs.lemmas.List.Concat.{flat_map-cons}
use Rattle.std.proofs.lemmas.List.Elements.{filter-append}
use Rattle.log_model.specs.History.{Numbered}
use Rattle.lq_ast.specs.Condition.{Condition}
use Rattle.lq_ast.specs.Holds.{holds}
use Rattle.block_body.specs.Outline.{Outline}
use Rattle.block_body.specs.Outlines.{outline_of}
use Rattle.lq_prune.specs.Need.{admits, need_of}
use Rattle.lq_prune.specs.Pruning.{MissesNone, MissesNoneOfAll, is_admitted, rows_that_hold}
use Rattle.lq_prune.specs.Texts.{has_texts}
use Rattle.lq_prune.proofs.Known.{IsKnown, known}
use Rattle.lq_prune.proofs.Soundness.{sound}

module _ (now : ℤ) (condition : Condition) where
  none-holds : (outline : Outline) (rows : List Numbered) → has_texts condition ≡ true
      → AllByRecursion (λ n. IsKnown outline n.row) rows → admits (need_of now condition) outline ≡ false
      → rows_that_hold now condition rows ≡ []
  none-holds outline [] texts all out = refl
  none-holds outline (n ∷ ns) texts all out =
      by (holds now condition n.row) refl (none-holds outline ns texts all.1 out)
    where
      by : (b : Bool) → holds now condition n.row ≡ b → rows_that_hold now condition ns ≡ []
          → cond b (n ∷ rows_that_hold now condition ns) (rows_that_hold now condition ns) ≡ []
      by true met later = let admitted = sound now outline n.row all.0 condition texts met in absurd cc
      by false met later = later

  pub misses_none : has_texts condition ≡ true → MissesNone now condition
  misses_none texts rows block out = none-holds (outline_of rows) rows texts (known rows block) out

  abbrev all_rows : List (List Numbered) → List Numbered
  all_rows blocks = flat_map (λ rows. rows) blocks

  abbrev left : List (List Numbered) → List (List Numbered)
  left blocks = filter (is_admitted now condition) blocks

  one-more : (rows : List Numbered) (blocks : List (List Numbered))
      → rows_that_hold now condition (all_rows (rows ∷ blocks))
      ≡ rows_that_hold now condition rows ++ rows_that_hold now condition (all_rows blocks)
  one-more rows blocks =
      ap (rows_that_hold now condition) (flat_map-cons (λ (rows : List Numbered). rows) rows blocks)
      ∙ filter-append (λ (numbered : Numbered). holds now condition numbered.row) rows (all_rows blocks)

  pub misses_none_of_all : MissesNone now condition → MissesNoneOfAll now condition
  misses_none_of_all misses [] all = refl
  misses_none_of_all misses (rows ∷ blocks) all =
      by (is_admitted now condition rows) refl (misses_none_of_all misses blocks all.1)
    where
      by : (b : Bool) → is_admitted now condition rows ≡ b
          → rows_that_hold now condition (all_rows (left blocks)) ≡ rows_that_hold now condition (all_rows blocks)
          → rows_that_hold now condition (all_rows (cond b (rows ∷ left blocks) (left blocks)))
          ≡ rows_that_hold now condition (all_rows (rows ∷ blocks))
      by true e later =
          one-more rows (left blocks) ∙ ap (λ l. rows_that_hold now condition rows ++ l) later
          ∙ sym (one-more rows blocks)
      by false e later =
          later ∙ sym (one-more rows blocks ∙ ap (λ l. l ++ rows_that_hold now condition (all_rows blocks))
          (misses rows all.0 e))
