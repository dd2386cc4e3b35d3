use Rattle.std.proofs.Common.{◌∙◌, sym}
use Rattle.block_reading.specs.ByColumns.{bare}
use Rattle.block_format.proofs.NumberLaws.{apart-is}
use Rattle.block_reading.proofs.ByColumnsLaws.{numbers-bare}
use Rattle.block_reading.proofs.keys.are_apart.Goals as goal

pub returns : goal.returns
returns c =
    apart-is c.are_rising-apart.result (bare c.args.keys.now) c.as_slice.result.now (rw (
      c.as_slice.ensures.value,
      numbers-bare 0 c.args.keys.now ∙ sym c.in_ok-numbers.ensures,
    ) c.sorted-sorted.ensures.same) (rw
    c.as_slice.ensures.value c.sorted-sorted.ensures.sorted) c.are_rising-apart.ensures
