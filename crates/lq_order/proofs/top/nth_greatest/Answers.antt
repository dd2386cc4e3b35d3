use Rattle.std.proofs.Common.{arith, inl, inr}
use Rattle.lq_order.proofs.Leading.{nth_none, nth_split}
use Rattle.lq_order.proofs.top.nth_greatest.Goals as goal

pub returns-then-n-eq0 : goal.returns-then-n-eq0
returns-then-n-eq0 c = nth_none c.args.n c.args.numbers.now (elim c.then-n-eq0.either [
  | inl none ↦ inl none
  | inr short ↦ inr short.1
])

pub returns : goal.returns
returns c =
    let split = c.select_nth_unstable-nth in
    nth_split c.args.n split.result.1.now c.args.numbers.now split.result.0.now split.result.2.now
    split.ensures.permutation split.ensures.partitioned.0 split.ensures.partitioned.1 (omega arith)
