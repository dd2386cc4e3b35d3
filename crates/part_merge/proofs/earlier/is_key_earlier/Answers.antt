use Rattle.std.proofs.Common.{◌≡◌, rules}
use Rattle.std.specs.Ordering.{int_cmp}
use Rattle.part_merge.proofs.BeforeLaws.{key-earlier, key-is}
use Rattle.part_merge.proofs.earlier.is_key_earlier.Goals as goal

pub returns : goal.returns
returns c =
    let times : c.cmp.result ≡ int_cmp c.key-time.result.0 c.args.key.0 = search rules in
    key-earlier c.args.pick.now c.args.i c.key-time.result c.args.key c.cmp.result c.cmp-2.result c.cmp-3.result
    c.then-batches.result c.then.result c.is_lt.result (key-is c.args.pick.now c.args.i c.key-time.result c.key-time.ensures)
    times c.cmp-2.ensures c.cmp-3.ensures c.then-batches.ensures c.then.ensures c.is_lt.ensures
