-- The rows of opened blocks for which a filter holds, and why they are not gathered.
use Rattle.std.specs.Prelude.{◌≡◌, ℕ, ℤ, ◌≤◌, List, filter, flat_map}
use Rattle.std.specs.List.Sorted.{IsPermutation}
use Rattle.log_model.specs.Batches.{AreRising}
use Rattle.log_model.specs.History.{Numbered}
use Rattle.lq_ast.specs.Condition.{Condition}
use Rattle.lq_ast.specs.Evaluation.{row_limit}
use Rattle.lq_ast.specs.Holds.{holds}
use Rattle.matching_rows.specs.declared.fault.MatchFault.{MatchFault}
use Rattle.matching_rows.specs.declared.fault.MatchFault.TheVariants.{ManyRows, Memory}

-- the rows of all blocks, one block after another
abbrev pub rows_of_all : List (List Numbered) → List Numbered
rows_of_all opened = flat_map (λ rows. rows) opened

-- those of the rows for which the condition holds at the moment `now`
abbrev pub matches_in : Condition → ℤ → List Numbered → List Numbered
matches_in condition now rows = filter (λ numbered. holds now condition numbered.row) rows

-- The opened blocks have all rows of the history that match, each once. They may be all blocks of the history, and then
-- `rows` are all that they have. Or blocks were left out in which no row matches. Each row of the history comes before
-- all later ones.
pub record HaveMatches (condition : Condition) (now : ℤ) (opened : List (List Numbered)) (history : List Numbered)
    : Type 0 where
  pub rows : List Numbered
  pub same : IsPermutation rows history
  pub rising : AreRising history
  pub matches : matches_in condition now (rows_of_all opened) ≡ matches_in condition now rows

-- why so many rows are not gathered; `Memory` may always be returned
abbrev pub FailsFor : ℕ → MatchFault → Type 0
FailsFor count ManyRows = row_limit ≤ count
FailsFor count Memory = Unit {0}
