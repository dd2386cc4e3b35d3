use Rattle.std.proofs.Common.{◌∙◌, ap, rules, arith}
use Rattle.lq_ast.proofs.Sorted.{sorted_by_closure}
use Rattle.lq_ast.specs.Tuples.{sorted_by}
use Rattle.lq_order.specs.Column.{column_cmp, columns_cmp}
use Rattle.lq_order.proofs.Orders.{column_cmp_total, columns_cmp_total, one_column}
use Rattle.lq_order.proofs.sort.in_order.Goals as goal
use Rattle.lq_order.proofs.sort.in_order.Goals.{in-len1+in_ok-sort_by-in-len1, in_default+in_ok-sort_by-in_default}

pub returns : goal.returns
returns c =
    let places = c.args.places.items in
    let columns = c.args.columns.now in
    elim c.if-columns-lt1.branch [
      | in-len1+in_ok-sort_by-in-len1 w ↦
          let column = w.column-item.result in
          let one = one_column columns column (omega (arith, w.in-len1.len_at_least, w.in-len1.len_below))
          w.column-item.is in
          let sorted = sorted_by_closure (column_cmp column) (column_cmp_total column) places w.sort_by.new.self.items
          w.in_ok-sort_by-in-len1.ensures.sorted w.sort_by.ensures.stable (λ a o f called. search rules) in
          ap (λ v. v.items) w.places-is ∙ sorted ∙ (λ i. sorted_by (λ a b. one a b i) places)
      | in_default+in_ok-sort_by-in_default w ↦
          let sorted = sorted_by_closure (columns_cmp columns) (columns_cmp_total columns) places
          w.sort_by-in_default.new.self.items w.in_ok-sort_by-in_default.ensures.sorted
          w.sort_by-in_default.ensures.stable (λ a o f called. search rules) in
          ap (λ v. v.items) w.places-is ∙ sorted
    ]
