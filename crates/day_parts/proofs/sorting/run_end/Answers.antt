use Rattle.std.proofs.Common.{arith, rules}
use Rattle.day_parts.proofs.RunLaws.{same-more}
use Rattle.day_parts.proofs.sorting.run_end.Goals as goal

pub loop-end-preserved : goal.loop-end-preserved
loop-end-preserved c = record {
  some = omega arith;
  there = omega (arith, c.loop-end-test.true);
  same = same-more c.args.picks.now c.loop-end.end c.index-picks-0.result c.index-picks-end.result c.loop-end-test.true
      c.if-picks-end.true c.loop-end.invariant.same;
}
