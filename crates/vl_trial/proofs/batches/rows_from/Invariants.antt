use Rattle.std.proofs.Common.{◌≡◌, ◌-◌}
use Rattle.vl_trial.specs.Trial.{state_at}
use Rattle.vl_trial.specs.Left.{rows_from}
use Rattle.vl_trial.proofs.batches.rows_from.Given as goal

abbrev pub invariant-loop-number : goal.invariant-loop-number
invariant-loop-number l = record {
  state : l.state ≡ state_at l.fn.state (l.number - l.first);
  rows : l.rows.items ≡ rows_from l.fn.state l.first (l.number - l.first);
}
