use Rattle.std.proofs.Common.{◌≡◌, [], get_or, map, take}
use Rattle.log_model.specs.Row.{record_of}
use Rattle.lq_pipes.proofs.passing.rows_at.Given as goal

abbrev pub invariant-loop-place : goal.invariant-loop-place
invariant-loop-place g l =
    map (λ row. record_of (g.R.LentRow.event row)) l.kept.items
    ≡ map (λ place. get_or (map (λ row. record_of (g.R.LentRow.event row)) l.rows) place []) (take l.place-index l.places)
