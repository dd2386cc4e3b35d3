use Rattle.std.proofs.Common.{w64}
use Rattle.std.proofs.lemmas.Int.{to_z-of_z}
use Rattle.col_codec.specs.Lanes.{IsCanonical, numbers_in}
use Rattle.col_codec.specs.Widths.{bits_of}
use Rattle.col_codec.proofs.LaneReads.{sums-read}
use Rattle.col_codec.proofs.int_read.take_canonical.Goals as goal

pub returns-then-are_canonical-clause-value : goal.returns-then-are_canonical-clause-value
returns-then-are_canonical-clause-value c =
    let l = to_z-of_z w64 c.args.least c.ranges.least in
    let canonical : IsCanonical c.args.least c.in-Ok.lanes = simp l at (c.are_canonical.ensures c.if-are_canonical.true) in
    sums-read (bits_of c.args.width) c.args.least c.args.rows c.args.bytes.now (numbers_in c.in-Ok.lanes)
    c.in-Ok.rest.now c.in-Ok.ensures.value canonical.fits
