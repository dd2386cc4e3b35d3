use Rattle.std.proofs.Common.{◌≡◌, ◌<◌, ◌∙◌, ℤ, length, get_or, map, pos, ap, of_z, sym, w64, arith}
use Rattle.std.specs.Fmt.{signed_decimal}
use Rattle.block_column.proofs.FirstLaws.{two-integers}
use Rattle.block_column.proofs.KindLaws.{decimals-are, first-integers}
use Rattle.block_column.proofs.Whole.{integer-at}
use Rattle.block_column.proofs.kept.differ_at.Goals as goal

pub returns : goal.returns
returns c _ =
    let some : 0 < length c.args.ints.now = omega arith in
    let first = integer-at c.args.ints.now 0 c.get-first.result (pos 0) some c.get-first.ensures in
    let other = integer-at c.args.ints.now c.args.i c.get-other.result (pos 0) c.requires.within c.get-other.ensures in
    let apart = two-integers c.args.ints.now c.args.i (pos 0) c.requires.later c.requires.within c.requires.fits
    (λ same. c.if-first-other.false (ap (of_z w64) (sym first ∙ same ∙ other))) in
    let are = decimals-are c.args.ints.now c.requires.fits in
    (first-integers (map signed_decimal c.args.ints.now) c.args.ints.now apart are.0 are.1).1
