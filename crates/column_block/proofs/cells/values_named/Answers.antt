use Rattle.std.proofs.Common.{◌≡◌, ◌∙◌, ◌<◌, ℕ, List, [], ap, false, length, replicate, subst, sym}
use Rattle.log_model.specs.History.{Numbered}
use Rattle.vl_row.specs.Names.{is_among}
use Rattle.block_body.specs.Outline.{Outline}
use Rattle.block_model.specs.Columns.{names_of, values_of}
use Rattle.block_body.proofs.OutlineLaws.{all-names}
use Rattle.column_block.proofs.OpenLaws.{inside, name-at, values-missing}
use Rattle.column_block.proofs.cells.values_named.Goals as goal

pub values-requires : goal.values-requires
values-requires c =
    let names = all-names c.args.stored.now c.head-head.result.now c.head-head.ensures.outline in
    subst (λ (l : List (List ℕ)). c.in-Some.c < length l) names
    (inside _ c.in-Some.c c.args.name.now c.in-Some.ensures.some)

pub returns-in-Some-clause-values : goal.returns-in-Some-clause-values
returns-in-Some-clause-values c =
    let rows : List Numbered = c.args.stored.now in
    let names = all-names rows c.head-head.result.now c.head-head.ensures.outline in
    let lt : c.in-Some.c < length (names_of rows) =
    subst (λ (l : List (List ℕ)). c.in-Some.c < length l) names
    (inside _ c.in-Some.c c.args.name.now c.in-Some.ensures.some) in
    let is = name-at rows c.head-head.result.now c.in-Some.c c.args.name.now c.head-head.ensures.outline lt
    c.in-Some.ensures.some in
    c.values.ensures.values ∙ ap (values_of rows) (sym is)

pub returns-in-None-clause-values : goal.returns-in-None-clause-values
returns-in-None-clause-values c =
    let rows : List Numbered = c.args.stored.now in
    let names = all-names rows c.head-head.result.now c.head-head.ensures.outline in
    let none : is_among (names_of rows) c.args.name.now ≡ false =
    subst (λ (l : List (List ℕ)). is_among l c.args.name.now ≡ false) names c.in-None.ensures.none in
    ap (λ (n : ℕ). replicate n []) (c.rows.ensures ∙ ap (λ (o : Outline). o.rows) c.head-head.ensures.outline)
    ∙ values-missing rows c.args.name.now none
