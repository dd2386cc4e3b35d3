use Rattle.std.proofs.Common.{ap, map, ◌∙◌}
use Rattle.std.proofs.lemmas.Result.{IfOk-weaker}
use Rattle.log_model.specs.Row.{record_of}
use Rattle.lq_ast.specs.PipeView.{sorting}
use Rattle.lq_pipes.specs.Needs.{narrowed}
use Rattle.lq_pipes.proofs.Rowwise.{rows_sorted}
use Rattle.lq_pipes.proofs.passing.sorted_rows.Goals as goal

pub returns : goal.returns
returns g c =
    let records = map (λ row. record_of (g.R.LentRow.event row)) c.args.rows.now in
    let names = c.in_ok-projector.ensures ∙ c.in_ok-needs.ensures in
    let made = c.as_slice.ensures ∙ c.in_ok-records.ensures.made ∙ ap (λ n. map (narrowed n) records) names in
    let is = c.as_slice-2.ensures.value ∙ c.in_ok-places.ensures.sorted in
    IfOk-weaker c.rows_at.result _ _
    (λ kept e. e ∙ rows_sorted (sorting c.args.sort.now) records c.as_slice.result.now c.as_slice-2.result.now made is)
    c.rows_at.ensures
