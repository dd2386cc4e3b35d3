use Rattle.part_file.proofs.FollowedLaws.{block-spelled}
use Rattle.part_file.proofs.by_blocks.block_at.Goals as goal

pub returns-in-Ok-clause-bytes : goal.returns-in-Ok-clause-bytes
returns-in-Ok-clause-bytes c =
    block-spelled c.in-Ok.block c.in-Some.size c.args.bytes.now c.in-Some.rest.now c.split_at.result.0.now
    c.split_at.result.1.now c.in-Some.ensures.bytes c.split_at.ensures.front c.split_at.ensures.back
    c.split_at.ensures.front_len c.in-Ok.ensures.found
