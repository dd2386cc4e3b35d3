use Rattle.std.proofs.Common.{◌/◌, length, arith}
use Rattle.token_bloom.proofs.Numbers.{filter-read}
use Rattle.token_bloom.proofs.filter.Bloom.from_bytes.Goals as goal

pub of-requires : goal.of-requires
of-requires c =
    let r = filter-read (length c.args.bytes.now / 8) c.args.bytes.now c.in-Ok.filter.items c.in-Ok.field-0-1.now
    (λ i. (c.type_inv.bytes i).fits)
    (omega (arith, c.if-bytes-ne0.false)) c.in-Ok.ensures in
    omega (arith, r.0, c.if-bytes.false)

pub returns-in-Ok-clause-ok : goal.returns-in-Ok-clause-ok
returns-in-Ok-clause-ok c =
    rw c.of.ensures
    (filter-read (length c.args.bytes.now / 8) c.args.bytes.now c.in-Ok.filter.items c.in-Ok.field-0-1.now (λ i.
    (c.type_inv.bytes i).fits)
    (omega (arith, c.if-bytes-ne0.false)) c.in-Ok.ensures).1
