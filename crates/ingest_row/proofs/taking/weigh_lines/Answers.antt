use Rattle.std.proofs.Common.{◌∙◌, ℕ, arith, ap, FitsSigned, w64}
use Rattle.std.proofs.lemmas.Int.{to_z-of_z}
use Rattle.ingest_row.specs.Intake.{outcome_of}
use Rattle.ingest_row.proofs.Weighings.{weighs_end, weighs_more}
use Rattle.ingest_row.proofs.taking.weigh_lines.Goals as goal

pub loop-line-preserved-after-outcome-2 : goal.loop-line-preserved-after-outcome-2
loop-line-preserved-after-outcome-2 c =
    let fits : FitsSigned w64 c.args.now = c.ranges.now in
    record {
      fits = omega (arith, c.saturating_add-weight.ensures);
      weighs = simp to_z-of_z (weighs_more c.args.o.now c.args.now c.args.lines.now c.loop-line.rest.now
          c.in-Some.line.now c.in-Some.after.now c.args.taking.now.weight c.loop-line.weight
          c.saturating_add-weight.result (outcome_of c.in_ok-outcome.outcome) c.in-Some.ensures.line
          (simp to_z-of_z at c.in_ok-outcome.ensures)
          (rw c.weight_of.ensures at c.saturating_add-weight.ensures)
          (simp to_z-of_z at c.loop-line.invariant.weighs));
    }

pub loop-line-preserved : goal.loop-line-preserved
loop-line-preserved c =
    let fits : FitsSigned w64 c.args.now = c.ranges.now in
    record {
      fits = omega (arith, c.saturating_add-weight.ensures);
      weighs = simp to_z-of_z (weighs_more c.args.o.now c.args.now c.args.lines.now c.loop-line.rest.now
          c.in-Some.line.now c.in-Some.after.now c.args.taking.now.weight c.loop-line.weight
          c.saturating_add-weight.result (outcome_of c.in_ok-outcome.outcome) c.in-Some.ensures.line
          (simp to_z-of_z at c.in_ok-outcome.ensures)
          (rw c.weight_of.ensures at c.saturating_add-weight.ensures)
          (simp to_z-of_z at c.loop-line.invariant.weighs));
    }

pub returns : goal.returns
returns c =
    let fits : FitsSigned w64 c.args.now = c.ranges.now in
    weighs_end c.args.o.now c.args.now c.args.lines.now c.loop-line.rest.now c.args.taking.now.weight c.loop-line.weight
    c.in_default.ensures.none c.loop-line.invariant.fits (simp to_z-of_z at c.loop-line.invariant.weighs)
