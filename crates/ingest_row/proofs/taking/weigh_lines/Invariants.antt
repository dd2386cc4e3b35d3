use Rattle.std.proofs.Common.{◌≡◌, ◌+◌, ◌-◌, ◌^◌, ◌<◌, List, length, min}
use Rattle.log_model.specs.Row.{batch_weight}
use Rattle.ingest_row.specs.Intake.{IsIntake, Outcome, rows_read}
use Rattle.ingest_row.proofs.taking.weigh_lines.Given as goal

abbrev pub invariant-loop-line : goal.invariant-loop-line
invariant-loop-line l = record {
  fits : l.weight < 2 ^ 64;
  weighs : (later : List Outcome) → IsIntake l.o l.now l.rest later
      → (all : List Outcome) × IsIntake l.o l.now l.lines all
      × (min (l.taking.weight + batch_weight (rows_read all)) (2 ^ 64 - 1)
      ≡ min (l.weight + batch_weight (rows_read later)) (2 ^ 64 - 1));
}

abbrev pub decreases-loop-line : goal.decreases-loop-line
decreases-loop-line l = length l.rest
