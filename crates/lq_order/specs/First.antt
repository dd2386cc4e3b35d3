-- The first of many places.
use Rattle.std.specs.Prelude.{◌≡◌, ℕ, ◌≤◌, List, length, take}
use Rattle.std.specs.List.Sorted.{IsStrictlyIncreasing}
use Rattle.lq_ast.specs.Tuples.{sorted_by}
use Rattle.lq_order.specs.Column.{columns_cmp}
use Rattle.lq_order.specs.declared.column.Column.{Column}

-- The first n of the places in order are the first of those that are kept, which stand as they came. These are no
-- more where all places were looked at.
pub record HasFirst (columns : List Column) (places : List ℕ) (sample most : ℕ) (kept : List ℕ) : Type 0 where
  pub first : take most (sorted_by (columns_cmp columns) kept) ≡ take most (sorted_by (columns_cmp columns) places)
  pub rising : IsStrictlyIncreasing kept
  pub enough : most ≤ length kept
  pub exact : sample ≡ length places → length kept ≡ most
