use Rattle.std.proofs.Common.{FitsSigned, arith, w64}
use Rattle.std.proofs.lemmas.Int.{ints}
use Rattle.block_scan.proofs.Spans.{recent_is}
use Rattle.block_scan.proofs.ends.Ends.recent.Goals as goal

pub returns : goal.returns
returns c =
    let now : FitsSigned w64 c.args.now = c.ranges.now in
    let span : FitsSigned w64 c.args.span = c.ranges.span in
    λ time. recent_is c.args.now c.args.span time _ _ (omega (arith, ints)) (omega (arith, ints))
