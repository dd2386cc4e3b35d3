use Rattle.block_format.proofs.NumberLaws.{apart-is}
use Rattle.block_format.proofs.rules.are_numbered_apart.Goals as goal

pub returns : goal.returns
returns c =
    apart-is c.are_rising.result c.args.rows.now c.as_slice.result.now (rw c.as_slice.ensures.value
    c.in_ok-numbers.ensures.same) (rw c.as_slice.ensures.value c.in_ok-numbers.ensures.sorted) c.are_rising.ensures
