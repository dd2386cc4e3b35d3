use Rattle.std.proofs.Common.{◌*◌, ◌≤◌, arith, length}
use Rattle.word_filter.proofs.FilterLaws.{skipped-all}
use Rattle.word_filter.proofs.skip_u64s.Goals as goal

pub returns : goal.returns
returns c =
    let all : 8 * c.args.count ≤ length c.args.bytes.now = omega (arith, c.if-bytes-size.false) in
    rw c.split_at.ensures.back (skipped-all c.args.count c.args.bytes.now all)
