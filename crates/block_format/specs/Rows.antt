-- The rows of a block.
use Rattle.std.specs.Prelude.{◌≡◌, ℕ, ℤ, Bool, true, ◌&&◌, ◌||◌, ◌==◌, not, nat_lt, ◌<◌, ◌≤◌, ◌*◌, IsTrue}
use Rattle.std.specs.Prelude.{List, [], ◌∷◌, length, pos}
use Rattle.std.specs.List.{list_all, AllByRecursion}
use Rattle.std.specs.Ordering.{nat_cmp, ordering_then}
use Rattle.std.specs.declared.cmp.Ordering.{Ordering}
use Rattle.log_model.specs.Field.{Field}
use Rattle.log_model.specs.History.{Numbered}
use Rattle.block_model.specs.Columns.{names_of}

-- the labels of the first row
abbrev pub labels_of : List Numbered → List Field
labels_of [] = []
labels_of (numbered ∷ rows) = numbered.row.labels

-- the time, the batch and the place
abbrev pub key_in : Numbered → ℤ × ℕ × ℕ
key_in numbered = (pos numbered.row.moment, numbered.batch, numbered.place)

-- earlier, or at the same time of an earlier batch, or at an earlier place of the same batch
abbrev pub comes_before : Numbered → Numbered → Bool
comes_before a b =
    nat_lt a.row.moment b.row.moment
    || ((a.row.moment == b.row.moment) && (nat_lt a.batch b.batch ||
    ((a.batch == b.batch) && nat_lt a.place b.place)))

-- each row comes before all that come after it
abbrev pub are_ordered : List Numbered → Bool
are_ordered [] = true
are_ordered (a ∷ rows) = list_all (comes_before a) rows && are_ordered rows

abbrev pub number_of : Numbered → ℕ × ℕ
number_of numbered = (numbered.batch, numbered.place)

-- the order of numbers: by the batch, and then by the place
abbrev pub number_cmp : ℕ × ℕ → ℕ × ℕ → Ordering
number_cmp a b = ordering_then (nat_cmp a.0 b.0) (nat_cmp a.1 b.1)

abbrev pub has_other_number : Numbered → Numbered → Bool
has_other_number a b = not ((a.batch == b.batch) && (a.place == b.place))

abbrev pub are_numbered_apart : List Numbered → Bool
are_numbered_apart [] = true
are_numbered_apart (a ∷ rows) = list_all (has_other_number a) rows && are_numbered_apart rows

-- the rows of a block: of one stream, in order, each number once, and within the limits
pub record IsBlock (rows : List Numbered) : Type 0 where
  pub some : 0 < length rows
  pub few : length rows ≤ 4096
  pub narrow : length (names_of rows) ≤ 2000
  pub small : length rows * length (names_of rows) ≤ 1_048_576
  pub stream : AllByRecursion (λ (numbered : Numbered). numbered.row.labels ≡ labels_of rows) rows
  pub ordered : IsTrue (are_ordered rows)
  pub apart : IsTrue (are_numbered_apart rows)
