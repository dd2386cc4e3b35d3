use Rattle.std.proofs.Common.{FitsSigned, ap, rules, ◌∙◌}
use Rattle.std.proofs.lemmas.Int.{to_z-of_z}
use Rattle.std.specs.Int.{w64, w128}
use Rattle.lq_prune.specs.Need as is
use Rattle.lq_prune.proofs.tree.since.Goals as goal

pub returns : goal.returns
returns c =
    let narrow : FitsSigned w64 c.args.now = c.ranges.now in
    let span : FitsSigned w64 c.args.span = c.ranges.span in
    let wide : FitsSigned w128 c.args.now = search rules in
    let first : FitsSigned w128 c.first_moment.result = search rules in
    (simp to_z-of_z at c.within.ensures)
    ∙ ap (λ from. is.time_within from c.args.now) (simp to_z-of_z at c.first_moment.ensures)
