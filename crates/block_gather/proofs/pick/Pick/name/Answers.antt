use Rattle.std.proofs.Common.{◌≡◌, ◌∙◌, ℕ, List, Some, ap, map, sym, slice_get}
use Rattle.block_body.specs.Outline.{NamedFilter}
use Rattle.block_body.proofs.OutlineLaws.{all-names}
use Rattle.block_model.specs.Columns.{names_of}
use Rattle.block_gather.specs.Picked.{Picked}
use Rattle.block_gather.proofs.pick.Pick.name.Goals as goal

pub returns : goal.returns
returns c =
    let names = all-names c.self.inside.stored.now c.head.result.now c.head.ensures.outline
    ∙ ap (λ (p : Picked). names_of p.block) c.self.view_is in
    sym (ap (λ (l : List (List ℕ)). slice_get l c.args.c) names) ∙ c.name.ensures
