use Rattle.std.proofs.Common.{◌∙◌, FitsSigned, ap, arith, map, sym}
use Rattle.std.proofs.lemmas.Int.{to_z-of_z}
use Rattle.std.specs.Int.{w64}
use Rattle.std.proofs.lemmas.List.{take_all}
use Rattle.std.specs.List.{list_all}
use Rattle.lq_ast.specs.View.{condition}
use Rattle.lq_prune.specs.Need.{need_of}
use Rattle.lq_prune.specs.Texts.{has_texts}
use Rattle.lq_prune.proofs.Lists.{needs-list, texts-list}
use Rattle.lq_prune.proofs.tree.+needing.Goals as goal

pub trees-returns-clause-need : goal.trees-returns-clause-need
trees-returns-clause-need t c =
    let fits : FitsSigned w64 c.args.now = c.ranges.now in
    (simp to_z-of_z at c.loop-filter.invariant.need)
    ∙ ap (map (λ filter. need_of c.args.now (condition filter)))
    (take_all c.loop-filter.filter-index c.args.filters.now (omega arith))
    ∙ needs-list condition c.args.now c.args.filters.now

pub trees-returns-clause-texts : goal.trees-returns-clause-texts
trees-returns-clause-texts t c =
    sym (texts-list condition c.args.filters.now)
    ∙ ap (list_all (λ filter. has_texts (condition filter)))
    (sym (take_all c.loop-filter.filter-index c.args.filters.now (omega arith)))
    ∙ c.loop-filter.invariant.utf8
