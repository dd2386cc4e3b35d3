-- The rows and batches of a trial from some row on.
use Rattle.std.specs.Prelude.{ℕ, suc, ◌+◌, List, map}
use Rattle.std.specs.List.{range_with_len}
use Rattle.log_model.specs.Row.{Row, Batch}
use Rattle.vl_trial.specs.Trial.{drawn, in_thousands, row_of, state_at}

-- `count` rows from number `first` on, where `state` is the generator's state before them
unfoldable pub rows_from : ℕ → ℕ → ℕ → List Row
rows_from state first count =
    map (λ more. row_of (first + more) (drawn (state_at state (suc more)))) (range_with_len 0 count)

-- their batches
abbrev pub batches_from : ℕ → ℕ → ℕ → List Batch
batches_from state first count = in_thousands (rows_from state first count)
