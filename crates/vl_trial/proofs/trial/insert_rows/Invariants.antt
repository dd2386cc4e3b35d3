use Rattle.std.proofs.Common.{◌≡◌, ◌≤◌, ◌++◌, length}
use Rattle.std.specs.Prelude.{flat_map}
use Rattle.log_model.specs.History.{batches_in}
use Rattle.lone_desk.specs.Kept.{MayKeepAlone}
use Rattle.vl_trial.specs.Trial.{trial_batches, trial_rows}
use Rattle.vl_trial.proofs.trial.insert_rows.Given as goal

abbrev pub invariant-loop-batch : goal.invariant-loop-batch
invariant-loop-batch g l =
    (batches_in l.desk.history ++ l.batches ≡ trial_batches l.seed l.rows)
    × MayKeepAlone l.keeper l.desk
    × (length (trial_batches l.seed l.rows) ≤ 1000)
    × (flat_map (λ batch. batch) (trial_batches l.seed l.rows) ≡ trial_rows l.seed l.rows)

abbrev pub decreases-loop-batch : goal.decreases-loop-batch
decreases-loop-batch g l = length l.batches
