use Rattle.part_file.proofs.FollowedLaws.{blocks-spelled}
use Rattle.part_file.proofs.by_blocks.blocks_in.Goals as goal

pub returns-clause-bytes : goal.returns-clause-bytes
returns-clause-bytes c =
    blocks-spelled c.in-Some-2.blocks.items c.in-Some-number_at.count c.args.bytes.now c.in-Some.rest.now
    c.in-Some-number_at.rest.now c.in-Some.ensures c.in-Some-number_at.ensures.bytes (rw c.in-Some-2.is at
    c.in_ok-blocks.ensures.bytes) (rw c.in-Some-2.is at c.in_ok-blocks.ensures.count)
