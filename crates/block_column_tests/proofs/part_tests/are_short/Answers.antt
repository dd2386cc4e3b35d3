use Rattle.std.proofs.Common.{◌≡◌, ◌<◌, [], ap, arith, get_or, length}
use Rattle.std.proofs.lemmas.List.Sums.{sum_by_more}
use Rattle.lent_row.specs.Cells.{value_text}
use Rattle.block_column.proofs.Whole.{text-at}
use Rattle.block_column_tests.proofs.part_tests.are_short.Goals as goal

pub loop-i-preserved : goal.loop-i-preserved
loop-i-preserved c =
    let lt : c.loop-i.i < length c.args.found.now = omega (arith, c.loop-i-test.true, c.len-i-end.ensures) in
    let text : get_or c.args.found.now c.loop-i.i [] ≡ value_text c.value.result =
    text-at c.args.found.now c.loop-i.i (value_text c.value.result) lt c.value.ensures in
    record {
      size = omega (
        arith,
        c.loop-i.invariant.size,
        c.text_len-len.ensures.len,
        ap length text,
        sum_by_more length c.args.found.now c.loop-i.i [] lt,
      );
      small = omega (arith, c.loop-i.invariant.small);
    }
