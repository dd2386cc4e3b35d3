use Rattle.std.proofs.Common.{◌+◌, ◌-◌, ◌/◌, ◌<◌, arith, length}
use Rattle.day_parts.proofs.DayLaws.{one-day, up-to-row}
use Rattle.day_parts.proofs.picking.day_end.Goals as goal

pub returns-then-day_at-day-clause-day : goal.returns-then-day_at-day-clause-day
returns-then-day_at-day-clause-day c =
    let lt : c.len-last.result - 1 < length c.args.rows.now = omega (
      arith,
      c.len-last.ensures.count,
      c.len-last.ensures.some,
    ) in
    one-day c.args.rows.now (c.len-last.result - 1 + 1) (omega arith) (up-to-row c.args.rows.now c.day_at-day.result
    c.day_at.result (c.len-last.result - 1) c.rules.ensures.ordered lt c.day_at-day.ensures c.day_at.ensures
    c.if-day_at-day.true)

pub loop-low-preserved-then-day_at-day-2 : goal.loop-low-preserved-then-day_at-day-2
loop-low-preserved-then-day_at-day-2 c =
    let middle = c.loop-low.low + (c.loop-low.high - c.loop-low.low) / 2 in
    let lt : middle < c.loop-low.high = omega (arith, c.loop-low-test.true) in
    record {
      some = omega arith;
      there = omega (arith, lt, c.loop-low.invariant.within);
      within = c.loop-low.invariant.within;
      day = up-to-row c.args.rows.now c.day_at-day.result c.day_at-in-loop-low.result middle c.rules.ensures.ordered (omega
          (arith, lt, c.loop-low.invariant.within)) c.day_at-day.ensures c.day_at-in-loop-low.ensures
          c.if-day_at-day-2.true;
    }
