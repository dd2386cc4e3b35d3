-- Comparisons by columns of values.
use Rattle.std.specs.Prelude.{ℕ, Bool, List, [], ◌∷◌, slice_index, if◌then◌else◌}
use Rattle.std.specs.List.{slice_get}
use Rattle.std.specs.Option.{option_cmp}
use Rattle.std.specs.Ordering.{is_le, nat_cmp, on, ordering_reverse, ordering_then, then_cmp}
use Rattle.std.specs.declared.cmp.Ordering.{Ordering}
use Rattle.std.specs.declared.cmp.Ordering.TheVariants.{Equal}
use Rattle.log_model.specs.Order.{key_cmp}
use Rattle.lq_order.specs.declared.column.Column.{Column}
use Rattle.lq_order.specs.declared.values.Values.{Values}
use Rattle.lq_order.specs.declared.values.Values.TheVariants.{Keys, Ranks}

-- by the ranks or the keys at two places
abbrev pub values_cmp : Values → ℕ → ℕ → Ordering
values_cmp (Ranks ranks) = on (slice_index ranks.items) nat_cmp
values_cmp (Keys keys) = on (slice_get keys.items) (option_cmp key_cmp)

-- from the greatest down where the column says so
abbrev pub column_cmp : Column → ℕ → ℕ → Ordering
column_cmp column a b =
    let order = values_cmp column.values a b in
    if column.desc then ordering_reverse order else order

-- by the first column in which they differ
abbrev pub columns_cmp : List Column → ℕ → ℕ → Ordering
columns_cmp [] a b = Equal
columns_cmp (column ∷ columns) a b = ordering_then (column_cmp column a b) (columns_cmp columns a b)

-- by the columns, and then by the places themselves
abbrev pub placed_cmp : List Column → ℕ → ℕ → Ordering
placed_cmp columns = then_cmp (columns_cmp columns) nat_cmp

-- whether a place does not stand after the last one that is wanted
abbrev pub is_up_to : List Column → ℕ → ℕ → Bool
is_up_to columns last place = is_le (placed_cmp columns place last)
