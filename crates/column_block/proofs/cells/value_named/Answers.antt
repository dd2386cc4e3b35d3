use Rattle.std.proofs.Common.{◌≡◌, ◌∙◌, ◌<◌, ℕ, List, [], ap, false, get_or, length, subst, sym}
use Rattle.lent_row.specs.Cells.{value_text}
use Rattle.log_model.specs.Field.{field_value}
use Rattle.log_model.specs.History.{Numbered}
use Rattle.vl_row.specs.Names.{is_among}
use Rattle.block_model.specs.Columns.{names_of}
use Rattle.block_body.proofs.OutlineLaws.{all-names}
use Rattle.column_block.proofs.OpenLaws.{if-some, inside, name-at, value-missing, value-named}
use Rattle.column_block.proofs.cells.value_named.Goals as goal

pub value_in-requires-clause-column : goal.value_in-requires-clause-column
value_in-requires-clause-column c =
    let names = all-names c.args.stored.now c.head-head.result.now c.head-head.ensures.outline in
    subst (λ (l : List (List ℕ)). c.in-Some.c < length l) names
    (inside _ c.in-Some.c c.args.name.now c.in-Some.ensures.some)

pub returns-in-Some : goal.returns-in-Some
returns-in-Some c =
    let rows : List Numbered = c.args.stored.now in
    let names = all-names rows c.head-head.result.now c.head-head.ensures.outline in
    let lt : c.in-Some.c < length (names_of rows) =
    subst (λ (l : List (List ℕ)). c.in-Some.c < length l) names
    (inside _ c.in-Some.c c.args.name.now c.in-Some.ensures.some) in
    let is = name-at rows c.head-head.result.now c.in-Some.c c.args.name.now c.head-head.ensures.outline lt
    c.in-Some.ensures.some in
    if-some _ (λ (n : Numbered). value_text c.value_in.result ≡ field_value n.row.fields c.args.name.now) (λ n e.
    value-named rows c.args.i c.in-Some.c c.args.name.now (value_text c.value_in.result) n is c.value_in.ensures e)

pub returns-in-None : goal.returns-in-None
returns-in-None c =
    let rows : List Numbered = c.args.stored.now in
    let names = all-names rows c.head-head.result.now c.head-head.ensures.outline in
    let none : is_among (names_of rows) c.args.name.now ≡ false =
    subst (λ (l : List (List ℕ)). is_among l c.args.name.now ≡ false) names c.in-None.ensures.none in
    if-some _ (λ (n : Numbered). [] ≡ field_value n.row.fields c.args.name.now) (λ n e.
    sym (value-missing rows c.args.i c.args.name.now n e none))
