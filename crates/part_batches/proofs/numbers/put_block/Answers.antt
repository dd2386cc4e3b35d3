use Rattle.std.proofs.Common.{◌∙◌, ◌<◌, arith, length}
use Rattle.part_batches.proofs.NumberLaws.{put-number}
use Rattle.part_batches.proofs.numbers.put_block.Goals as goal

pub loop-i-preserved : goal.loop-i-preserved
loop-i-preserved c =
    let test = c.loop-i-test.true in
    let end = c.len-i-end.ensures in
    let below : c.loop-i.i < length c.open-opened.result = omega (arith, test, end) in
    c.in_ok-push.ensures.items
    ∙ put-number c.open-opened.result c.loop-i.i c.key-batch.result c.args.numbers.now.items c.loop-i.numbers.items below
    c.key-batch.ensures c.loop-i.invariant
