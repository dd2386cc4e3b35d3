use Rattle.std.proofs.Common.{◌≡◌, ◌∙◌, ℕ, List, IfSome, Some, ap, false, slice_get, subst}
use Rattle.std.specs.Prelude.{IfNone}
use Rattle.vl_row.specs.Names.{is_among}
use Rattle.block_body.proofs.OutlineLaws.{all-names}
use Rattle.block_model.specs.Columns.{names_of}
use Rattle.block_gather.specs.Picked.{Picked}
use Rattle.block_gather.proofs.pick.Pick.column_named.Goals as goal

pub returns-clause-some : goal.returns-clause-some
returns-clause-some c =
    let names = all-names c.self.inside.stored.now c.head.result.now c.head.ensures.outline
    ∙ ap (λ (p : Picked). names_of p.block) c.self.view_is in
    subst (λ (l : List (List ℕ)). IfSome c.column_named.result (λ k. slice_get l k ≡ Some c.args.name.now)) names
    c.column_named.ensures.some

pub returns-clause-none : goal.returns-clause-none
returns-clause-none c =
    let names = all-names c.self.inside.stored.now c.head.result.now c.head.ensures.outline
    ∙ ap (λ (p : Picked). names_of p.block) c.self.view_is in
    subst (λ (l : List (List ℕ)). IfNone c.column_named.result (is_among l c.args.name.now ≡ false)) names
    c.column_named.ensures.none
