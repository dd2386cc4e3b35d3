use Rattle.std.proofs.Common.{◌+◌, ◌++◌, ap, append_assoc, map, sym, take, ◌∙◌}
use Rattle.lq_ast.specs.View.{condition}
use Rattle.lq_pipes.specs.Needs.{asked_by}
use Rattle.lq_pipes.proofs.Among.{asked_list}
use Rattle.lq_pipes.proofs.Walked.{things_more}
use Rattle.lq_pipes.proofs.needed.+naming.Goals as goal

pub push_filters-loop-filter-preserved : goal.push_filters-loop-filter-preserved
push_filters-loop-filter-preserved t c =
    let i = c.loop-filter.filter-index in
    let xs = c.args.filters.now in
    let mine = asked_by (condition c.filter-item.result) in
    let more = asked_list (map condition (take (i + 1) xs))
    ∙ things_more asked_by condition xs i c.filter-item.result c.loop-filter-test.true c.filter-item.is
    ∙ ap (λ names. names ++ mine) (sym (asked_list (map condition (take i xs)))) in
    c.in_ok-push_filter.ensures ∙ ap (λ names. names ++ mine) c.loop-filter.invariant
    ∙ append_assoc c.args.names.now.items _ mine ∙ ap (λ names. c.args.names.now.items ++ names) (sym more)
