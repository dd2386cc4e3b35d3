-- The orders of columns and of places.
use Rattle.std.proofs.Common.{◌≡◌, ℕ, Bool, true, false, cond, List, [], ◌∷◌, length, get_or, refl, sym, ap, ◌∙◌}
use Rattle.std.proofs.Common.{slice_index, subst, arith}
use Rattle.std.specs.Cmp.{IsTotalOrder, back_total, nat_cmp_total, on_total, then_total}
use Rattle.std.specs.Cmp.Lexicographic.{options_total}
use Rattle.std.specs.List.{slice_get}
use Rattle.std.specs.Ordering.{ordering_reverse, ordering_then}
use Rattle.std.specs.declared.cmp.Ordering.{Ordering}
use Rattle.std.specs.declared.cmp.Ordering.TheVariants.{Equal, Greater, Less}
use Rattle.vl_row.specs.KeyOrder.{key_cmp_total}
use Rattle.lq_order.specs.Column.{column_cmp, columns_cmp, placed_cmp, values_cmp}
use Rattle.lq_order.specs.declared.column.Column.{Column}
use Rattle.lq_order.specs.declared.values.Values.{Values}
use Rattle.lq_order.specs.declared.values.Values.TheVariants.{Keys, Ranks}

pub directed_total : {A : Type 0} (desc : Bool) (order : A → A → Ordering) → IsTotalOrder order
    → IsTotalOrder (λ a b. cond desc (ordering_reverse (order a b)) (order a b))
directed_total true order total = subst IsTotalOrder (λ i a b. total.antisymm b a i) (back_total total)
directed_total false order total = total

pub level_total : {A : Type 0} → IsTotalOrder (λ (a b : A). Equal)
level_total = record { antisymm = λ x y. refl; trans = λ x y z h k. h; congr = λ x y z h. refl }

pub values_cmp_total : (values : Values) → IsTotalOrder (values_cmp values)
values_cmp_total (Ranks ranks) = on_total (slice_index ranks.items) nat_cmp_total
values_cmp_total (Keys keys) = on_total (slice_get keys.items) (options_total key_cmp_total)

pub column_cmp_total : (column : Column) → IsTotalOrder (column_cmp column)
column_cmp_total column = directed_total column.desc (values_cmp column.values) (values_cmp_total column.values)

pub columns_cmp_total : (columns : List Column) → IsTotalOrder (columns_cmp columns)
columns_cmp_total [] = level_total
columns_cmp_total (column ∷ columns) = then_total (column_cmp_total column) (columns_cmp_total columns)

pub placed_cmp_total : (columns : List Column) → IsTotalOrder (placed_cmp columns)
placed_cmp_total columns = then_total (columns_cmp_total columns) nat_cmp_total

then_equal : (o : Ordering) → ordering_then o Equal ≡ o
then_equal Less = refl
then_equal Equal = refl
then_equal Greater = refl

-- with a single column
pub one_column : (columns : List Column) (column : Column) → length columns ≡ 1 → column ≡ get_or columns 0 column
    → (a b : ℕ) → column_cmp column a b ≡ columns_cmp columns a b
one_column [] column one is a b = absurd (omega arith)
one_column (first ∷ []) column one is a b =
    ap (λ c. column_cmp c a b) is ∙ sym (then_equal (column_cmp first a b))
one_column (first ∷ (second ∷ columns)) column one is a b = absurd (omega arith)
