use Rattle.std.proofs.Common.{arith}
use Rattle.std.proofs.lemmas.Bool.{eqb-true, eq-eqb}
use Rattle.std.proofs.lemmas.List.{take_rest}
use Rattle.vl_io.proofs.Feeds.{counts_more, counts_short}
use Rattle.vl_io.proofs.lines.lines_end.Goals as goal

pub returns-in_default-clause-err : goal.returns-in_default-clause-err
returns-in_default-clause-err c =
    let none = rw (take_rest c.args.bytes.now c.loop-missing.end) at c.in_default.ensures in (
      c.loop-missing-test.true,
      counts_short c.args.bytes.now c.args.lines c.loop-missing.end c.loop-missing.missing c.loop-missing.invariant.1
          (λ k below feed. none k (omega arith) below (eq-eqb _ _ feed)),
    )

pub loop-missing-preserved : goal.loop-missing-preserved
loop-missing-preserved c =
    let found = rw (take_rest c.args.bytes.now c.loop-missing.end) at c.in-Some.ensures in (
      c.loop-missing.invariant.0,
      counts_more c.args.bytes.now c.args.lines c.loop-missing.end c.loop-missing.missing c.in-Some.place c.loop-missing.invariant.1 c.loop-missing-test.true
          found.0.high (eqb-true _ _ found.1) (λ k below feed. found.0.before k (omega arith) below (eq-eqb _ _ feed)),
    )
