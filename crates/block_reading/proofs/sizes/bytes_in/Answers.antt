use Rattle.std.proofs.Common.{◌≡◌, ◌+◌, ◌*◌, ◌<◌, ◌≤◌, ◌∙◌, ℕ, ap, arith, get_or, length, rules, sym, take}
use Rattle.std.proofs.lemmas.List.Sums.{sum_by_more}
use Rattle.block_reading.specs.ByColumns.{bytes_in, nothing}
use Rattle.block_reading.specs.declared.sizes.RowSize.{RowSize}
use Rattle.block_reading.proofs.sizes.bytes_in.Goals as goal

pub overflow_add-bytes : goal.overflow_add-bytes
overflow_add-bytes c =
    let lt : c.loop-size.size-index < length c.args.sizes.now = c.loop-size-test.true in
    let within = c.requires.within c.loop-size.size-index lt in
    omega (arith, c.requires.few, within.1, c.loop-size.invariant.light)

pub loop-size-preserved : goal.loop-size-preserved
loop-size-preserved c =
    let lt : c.loop-size.size-index < length c.args.sizes.now = c.loop-size-test.true in
    let within = c.requires.within c.loop-size.size-index lt in
    record {
      sum = ap (λ (k : ℕ). k + (get_or c.args.sizes.now c.loop-size.size-index nothing).weight) c.loop-size.invariant.sum
          ∙ sym (sum_by_more (λ (s : RowSize). s.weight) c.args.sizes.now c.loop-size.size-index nothing lt);
      light = omega (arith, within.1, c.loop-size.invariant.light);
    }
