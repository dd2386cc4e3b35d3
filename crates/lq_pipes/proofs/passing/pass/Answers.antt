use Rattle.std.proofs.Common.{Ok, ap, drop, map, refl, sym, ◌∙◌}
use Rattle.std.specs.List.{drop-map, take-map}
use Rattle.log_model.specs.Row.{record_of}
use Rattle.lq_pipes.proofs.passing.pass.Goals as goal

pub returns-in-Limit : goal.returns-in-Limit
returns-in-Limit g c =
    let kept = take-map (λ row. record_of (g.R.LentRow.event row)) c.in-Limit.most c.args.rows.now.items
    ∙ ap (map (λ row. record_of (g.R.LentRow.event row))) (sym c.truncate.ensures.items) in
    rw c.in-Limit.is (ap (λ records. Ok records) kept, refl)

pub returns-in-Offset : goal.returns-in-Offset
returns-in-Offset g c =
    let kept = drop-map (λ row. record_of (g.R.LentRow.event row)) c.in-Offset.first c.args.rows.now.items
    ∙ ap (map (λ row. record_of (g.R.LentRow.event row))) (sym c.leave_out.ensures) in
    rw c.in-Offset.is (ap (λ records. Ok records) kept, refl)
