use Rattle.std.proofs.Common.{◌≡◌, ◌++◌, [], length, arith}
use Rattle.lq_ast.specs.PipeView.{grouping}
use Rattle.lq_stats.specs.Partial.{rows}
use Rattle.lq_stats_tests.proofs.merge_tests.partial_of.Goals as goal

pub returns : goal.returns
returns c =
    let records = c.args.records.now in
    let count : rows c.add_all.new.self ≡ length ([] ++ records) =
    (c.in_ok-add_all.ensures (grouping c.args.pipe.now) [] c.in-Ok.ensures.same).taken.count in
    omega (arith, count, c.if-records-gt1000.false)
