use Rattle.std.proofs.Common.{◌∙◌, ◌≤◌, FitsSigned, ap, arith, length, map, rules, subst, sym, w64}
use Rattle.std.proofs.lemmas.Int.{to_z-of_z}
use Rattle.std.proofs.lemmas.List.{length-map}
use Rattle.std.proofs.lemmas.List.Sorted.{All-permutation, length_permutation}
use Rattle.std.specs.List.{All}
use Rattle.lq_ast.specs.Evaluation.{row_limit}
use Rattle.lq_filter.specs.Tree.{condition_of}
use Rattle.matching_rows.specs.Found.{IsFound, row_there}
use Rattle.matching_rows.proofs.Finding.{rows_of}
use Rattle.matching_rows.proofs.Matches.{answered, counted}
use Rattle.matching_rows.proofs.matching.matching_rows.Goals as goal

pub rows_found-requires : goal.rows_found-requires
rows_found-requires c =
    let opened = c.args.opened.now in
    subst (All (IsFound opened)) (sym c.as_slice.ensures.value)
    (All-permutation (IsFound opened) _ _ c.in_order-found.ensures.same c.in_ok-all_found.ensures.each)

pub returns-clause-rows : goal.returns-clause-rows
returns-clause-rows c = λ history of.
    let opened = c.args.opened.now in
    let fits : FitsSigned w64 c.args.now = c.ranges.now in
    let found = simp to_z-of_z at c.in_ok-all_found.ensures.rows_there in
    rows_of c.in_ok-rows.rows.items
    ∙ ap (map (λ row. row.row))
    (c.in_ok-rows.ensures ∙ ap (map (row_there opened)) c.as_slice.ensures.value)
    ∙ answered (condition_of c.args.filter.now) c.args.now opened history of
    _ c.in_order-found.result.items found
    c.in_order-found.ensures.same
    (All-permutation (IsFound opened) _ _ c.in_order-found.ensures.same c.in_ok-all_found.ensures.each)
    c.in_order-found.ensures.sorted

pub returns-then-len-ge-ROW_LIMIT-clause-fault : goal.returns-then-len-ge-ROW_LIMIT-clause-fault
returns-then-len-ge-ROW_LIMIT-clause-fault c = λ history of.
    let opened = c.args.opened.now in
    let condition = condition_of c.args.filter.now in
    let fits : FitsSigned w64 c.args.now = c.ranges.now in
    let found = simp to_z-of_z at c.in_ok-all_found.ensures.rows_there in
    let full : row_limit ≤ length c.in_order-found.result.items = search rules in
    omega (
      arith,
      full,
      length_permutation _ _ c.in_order-found.ensures.same,
      length-map c.in_ok-all_found.field-0.items (row_there opened),
      ap length found,
      counted condition c.args.now opened history of,
    )

pub returns-clause-few : goal.returns-clause-few
returns-clause-few c =
    let opened = c.args.opened.now in
    omega (
      arith,
      c.if-len-ge-ROW_LIMIT.false,
      c.len.ensures,
      length-map c.in_ok-rows.rows.items (λ row. row.numbered),
      length-map c.in_order-found.result.items (row_there opened),
      ap length (c.in_ok-rows.ensures ∙ ap (map (row_there opened)) c.as_slice.ensures.value),
    )
