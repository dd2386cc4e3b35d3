-- The history as a list of batches, what parts hold of it together, and the order of its rows.
use Rattle.std.specs.Prelude.{◌≡◌, ◌⊎◌, ℕ, suc, ◌<◌, List, [], ◌∷◌, ◌++◌, flat_map}
use Rattle.std.specs.List.{AllByRecursion}
use Rattle.std.specs.List.Sorted.{IsPermutation}
use Rattle.log_model.specs.History.{Numbered, numbered_in}
use Rattle.log_model.specs.Row.{Batch}

-- the numbered rows of batches that come after the first `count`
abbrev pub batch_rows_after : ℕ → List Batch → List Numbered
batch_rows_after count [] = []
batch_rows_after count (batch ∷ batches) = numbered_in (suc count) batch ++ batch_rows_after (suc count) batches

-- the numbered rows of batches
abbrev pub batch_rows : List Batch → List Numbered
batch_rows batches = batch_rows_after 0 batches

-- Together the parts hold the rows of exactly these batches, each once and in any order.
abbrev pub AreOf : {P : Type 0} → (P → List Numbered) → List P → List Batch → Type 0
AreOf rows parts batches = IsPermutation (flat_map rows parts) (batch_rows batches)

-- a row comes before another: its batch is earlier, or the batch is the same and its place is earlier
abbrev pub IsBefore : Numbered → Numbered → Type 0
IsBefore a b = (a.batch < b.batch) ⊎ ((a.batch ≡ b.batch) × (a.place < b.place))

-- each row comes before all later ones, so no two have the same batch and place
abbrev pub AreRising : List Numbered → Type 0
AreRising [] = Unit {0}
AreRising (row ∷ rows) = AllByRecursion (IsBefore row) rows × AreRising rows
