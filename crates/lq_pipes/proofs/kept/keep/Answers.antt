use Rattle.std.proofs.Common.{◌≡◌, ap, arith, sym, ◌∙◌}
use Rattle.std.proofs.lemmas.List.Filters.{FiltersInPlace-more_no, FiltersInPlace-more_swap}
use Rattle.lq_ast.specs.Holds.{record_holds}
use Rattle.lq_filter.specs.Inner.{inner_condition}
use Rattle.lq_pipes.proofs.kept.keep.Goals as goal
use Rattle.lq_pipes.proofs.kept.keep.Goals.{else-branch, then-branch}

pub loop-i-preserved : goal.loop-i-preserved
loop-i-preserved c =
    let found : c.in_ok-holds.field-0 ≡ record_holds (inner_condition c.args.asked.now) c.index.result.now =
    c.in_ok-holds.ensures.value ∙ ap (λ condition. record_holds condition c.index.result.now)
    c.loop-i.invariant.asked in
    record {
      asked = c.holds.ensures.filter ∙ c.loop-i.invariant.asked;
      kept = elim c.if-branch.branch [
        | then-branch w ↦ rw (w.records-is, w.kept-is) (FiltersInPlace-more_swap c.loop-i.invariant.kept (omega arith)
            (sym found ∙ w.if-branch.true) c.index.ensures w.swap.ensures.by_index)
        | else-branch w ↦ rw (w.records-is, w.kept-is) (FiltersInPlace-more_no c.loop-i.invariant.kept (omega arith)
            (sym found ∙ w.if-branch.false) c.index.ensures)
      ];
    }
