use Rattle.std.proofs.Common.{◌≡◌, ◌∙◌, ◌+◌, ℕ, arith, add-one, sym, FitsSigned, w64}
use Rattle.std.proofs.lemmas.Int.{to_z-of_z}
use Rattle.ingest_row.specs.Intake.{outcome_of}
use Rattle.ingest_row.proofs.Weighings.{goes_on}
use Rattle.ingest_row.proofs.taking.take_lines.Goals as goal

pub lines-preserved : goal.lines-preserved
lines-preserved c =
    let fits : FitsSigned w64 c.args.now = c.ranges.now in
    record {
      takes = simp to_z-of_z (λ body begun.
          goes_on c.args.o.now c.args.now body c.lines.rest.now c.in-Some.line.now c.in-Some.after.now
          c.lines.taking c.add.new.self (outcome_of c.in_ok-outcome.outcome) c.in-Some.ensures.line
          (simp to_z-of_z at c.in_ok-outcome.ensures) c.in_ok-add.ensures.rows
          (rw add-one at c.in_ok-add.ensures.refused) (rw add-one at c.in_ok-add.ensures.number)
          c.in_ok-add.ensures.weight
          ((simp to_z-of_z at c.lines.invariant.takes) body begun));
      fits = omega (arith, c.in-Some.ensures.shorter, c.lines.invariant.fits, c.in_ok-add.ensures.number);
      most = c.in_ok-add.ensures.most ∙ c.lines.invariant.most;
    }

pub returns-in_default-clause-takes : goal.returns-in_default-clause-takes
returns-in_default-clause-takes c =
    let fits : FitsSigned w64 c.args.now = c.ranges.now in
    simp to_z-of_z at c.lines.invariant.takes

pub returns-in_default-clause-all : goal.returns-in_default-clause-all
returns-in_default-clause-all c = λ _. c.in_default.ensures.none

pub returns-clause-takes : goal.returns-clause-takes
returns-clause-takes c =
    let fits : FitsSigned w64 c.args.now = c.ranges.now in
    simp to_z-of_z at c.lines.invariant.takes
