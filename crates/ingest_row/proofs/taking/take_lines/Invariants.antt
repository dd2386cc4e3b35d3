use Rattle.std.proofs.Common.{◌≡◌, ℕ, ◌+◌, ◌<◌, ◌^◌, List, length}
use Rattle.ingest_row.specs.Weighing.{IsTakingIn}
use Rattle.ingest_row.proofs.taking.take_lines.Given as goal

abbrev pub invariant-lines : goal.invariant-lines
invariant-lines l = record {
  takes : (body : List ℕ) → IsTakingIn l.o l.now body l.lines l.fn.taking → IsTakingIn l.o l.now body l.rest l.taking;
  fits : l.taking.number + length l.rest < 2 ^ 64;
  most : l.taking.most ≡ l.fn.taking.most;
}

abbrev pub decreases-lines : goal.decreases-lines
decreases-lines l = length l.rest
