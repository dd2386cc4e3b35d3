use Rattle.std.proofs.Common.{arith, rules}
use Rattle.part_file.proofs.ReadLaws.{rules-are}
use Rattle.part_file.proofs.read.are_part_rows.Goals as goal

pub returns : goal.returns
returns c =
    rules-are c.are_rising.result c.args.rows.now c.as_slice.result.now (rw c.as_slice.ensures.value
    c.in_ok-numbers.ensures.same) (rw c.as_slice.ensures.value c.in_ok-numbers.ensures.sorted) c.are_rising.ensures
    (search rules) (omega arith)
