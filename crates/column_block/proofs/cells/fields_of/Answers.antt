use Rattle.std.proofs.Common.{◌≡◌, ◌∙◌, ◌<◌, ◌≤◌, ℕ, List, [], ap, arith, get_or, length, map, subst, sym}
use Rattle.std.specs.List.{AllByRecursion}
use Rattle.std.proofs.lemmas.List.{take_all}
use Rattle.byte_format.proofs.Cases.{some_is}
use Rattle.lent_row.specs.Cells.{value_text}
use Rattle.log_model.specs.Field.{field_value, set_all}
use Rattle.log_model.specs.History.{Numbered}
use Rattle.block_format.proofs.LabelLaws.{are-rows, name-some, names-some}
use Rattle.block_model.specs.Columns.{names_of}
use Rattle.block_model.specs.Keys.{IsNumbered}
use Rattle.block_model.proofs.FieldLaws.{value_named}
use Rattle.block_body.specs.Outlines.{outline_of}
use Rattle.column_block.proofs.OpenLaws.{column-count, fields-more, fields-whole, found-map, if-some, name-at}
use Rattle.column_block.proofs.cells.fields_of.Goals as goal

pub value_in-requires-clause-column : goal.value_in-requires-clause-column
value_in-requires-clause-column c =
    let head : c.head-head.result.now ≡ outline_of c.args.stored.now = c.head-head.ensures.outline in
    omega (
      arith,
      c.loop-c-test.true,
      c.columns-c-end.ensures,
      column-count c.args.stored.now c.head-head.result.now head,
    )

pub set_value-requires : goal.set_value-requires
set_value-requires c =
    let head : c.head-head.result.now ≡ outline_of c.args.stored.now = c.head-head.ensures.outline in
    let each = c.rules.ensures.each in
    let lt : c.loop-c.c < length (names_of c.args.stored.now) = omega (
      arith,
      c.loop-c-test.true,
      c.columns-c-end.ensures,
      column-count c.args.stored.now c.head-head.result.now head,
    ) in
    rw (name-at c.args.stored.now c.head-head.result.now c.loop-c.c c.name.result.now head lt c.name.ensures) (name-some
    (names_of c.args.stored.now) c.loop-c.c (names-some c.args.stored.now (are-rows c.args.stored.now each)) lt)

pub loop-c-preserved : goal.loop-c-preserved
loop-c-preserved c numbered e =
    let head : c.head-head.result.now ≡ outline_of c.args.stored.now = c.head-head.ensures.outline in
    let lt : c.loop-c.c < length (names_of c.args.stored.now) = omega (
      arith,
      c.loop-c-test.true,
      c.columns-c-end.ensures,
      column-count c.args.stored.now c.head-head.result.now head,
    ) in
    let name : List ℕ = get_or (names_of c.args.stored.now) c.loop-c.c [] in
    let value : value_text c.value_in.result ≡ field_value numbered.row.fields name =
    some_is (value_text c.value_in.result) (field_value numbered.row.fields name) (sym c.value_in.ensures
    ∙ found-map (λ (n : Numbered). field_value n.row.fields name) c.args.stored.now c.args.i numbered e) in
    fields-more numbered.row.fields (names_of c.args.stored.now) c.loop-c.c c.loop-c.fields c.set_value.new.fields
    c.name.result.now (value_text c.value_in.result) lt (c.loop-c.invariant numbered e)
    (name-at c.args.stored.now c.head-head.result.now c.loop-c.c c.name.result.now head lt c.name.ensures) value
    c.in_ok-set_value.ensures

pub returns : goal.returns
returns c =
    let head : c.head-head.result.now ≡ outline_of c.args.stored.now = c.head-head.ensures.outline in
    let each = c.rules.ensures.each in
    let le : length (names_of c.args.stored.now) ≤ c.loop-c.c = omega (
      arith,
      c.loop-c-test.false,
      c.columns-c-end.ensures,
      column-count c.args.stored.now c.head-head.result.now head,
    ) in
    if-some _ (λ (n : Numbered). c.loop-c.fields ≡ n.row.fields) (λ n e. c.loop-c.invariant n e
    ∙ ap (λ (l : List (List ℕ)). set_all [] (map (value_named n.row.fields) l)) (take_all c.loop-c.c (names_of
    c.args.stored.now) le)
    ∙ fields-whole c.args.stored.now c.args.i n each e)
