use Rattle.std.proofs.Common.{arith, rules}
use Rattle.part_model.specs.Filling.{rows_in_blocks}
use Rattle.part_file.proofs.FollowedLaws.{some-rows}
use Rattle.part_file.proofs.ReadLaws.{rules-are}
use Rattle.part_file.proofs.numbers.are_part_blocks.Goals as goal

pub returns : goal.returns
returns c rising =
    (rules-are c.are_rising.result (rows_in_blocks c.args.blocks.now) c.as_slice.result.now (rw c.as_slice.ensures.value
    c.in_ok-numbers.ensures.same) (rw c.as_slice.ensures.value c.in_ok-numbers.ensures.sorted) c.are_rising.ensures
    (some-rows c.args.blocks.now (search rules) c.requires) (omega arith)).0 rising
