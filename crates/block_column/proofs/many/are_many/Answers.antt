use Rattle.std.proofs.Common.{◌+◌, ◌<◌, ℕ, List, [], Bor, length}
use Rattle.std.proofs.Common.{arith}
use Rattle.block_model.proofs.Distinct.{no-fewer}
use Rattle.block_column.proofs.Apart.{count-on, one-more-taken}
use Rattle.block_column.proofs.many.are_many.Goals as goal

abbrev now_of : Bor (List ℕ) → List ℕ
now_of t = t.now

pub returns-then-count-gt-MAX_VALUES : goal.returns-then-count-gt-MAX_VALUES
returns-then-count-gt-MAX_VALUES c _ =
    let none : Bor (List ℕ) = record { ref_ptr = (0, 0); now = [] } in
    let lt : c.loop-i.i < length c.args.values.now = omega (arith, c.loop-i-test.true, c.min-i-end.ensures) in
    let more = count-on now_of c.loop-i.taken.items c.args.values.now c.loop-i.i none c.loop-i.count c.takes_slot.result
    lt c.loop-i.invariant.taken c.loop-i.invariant.count c.takes_slot.ensures.free in
    omega (arith, c.if-count-gt-MAX_VALUES.true, more, no-fewer now_of c.args.values.now (c.loop-i.i + 1))

pub loop-i-preserved : goal.loop-i-preserved
loop-i-preserved c =
    let none : Bor (List ℕ) = record { ref_ptr = (0, 0); now = [] } in
    let lt : c.loop-i.i < length c.args.values.now = omega (arith, c.loop-i-test.true, c.min-i-end.ensures) in
    record {
      len = c.takes_slot.ensures.len;
      taken = rw (c.takes_slot.ensures.taken) (one-more-taken now_of c.loop-i.taken.items c.args.values.now c.loop-i.i none lt
          c.loop-i.invariant.taken (rw c.loop-i.invariant.len c.takes_slot.ensures.below));
      count = count-on now_of c.loop-i.taken.items c.args.values.now c.loop-i.i none c.loop-i.count c.takes_slot.result
          lt c.loop-i.invariant.taken c.loop-i.invariant.count c.takes_slot.ensures.free;
      few = c.if-count-gt-MAX_VALUES.false;
    }
