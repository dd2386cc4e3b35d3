use Rattle.std.proofs.Common.{◌≡◌, ◌∙◌, ◌<◌, FitsSigned, ap, arith, flat_map, length, map, refl, subst, sym, w64}
use Rattle.std.proofs.lemmas.Int.{to_z-of_z}
use Rattle.std.specs.List.{AllByRecursion}
use Rattle.std.proofs.lemmas.List.{length-map}
use Rattle.column_block.specs.declared.open_row.OpenRow.{OpenRow}
use Rattle.log_model.specs.History.{rows_of}
use Rattle.log_model.specs.Row.{record_of}
use Rattle.lq_ast.specs.Evaluation.{row_limit}
use Rattle.lq_ast.specs.Patterns.{CanBeRead, patterns_of_stage}
use Rattle.lq_ast.specs.PipeView.{stage}
use Rattle.lq_ast.specs.Question.{question}
use Rattle.log_model.specs.Core.{parts_of}
use Rattle.query_run.specs.Answer.{FailsRun}
use Rattle.query_run.specs.Opened.{Counts, CountsUntil, CountsUntilFault, admitted}
use Rattle.query_run.proofs.Opening.{counts_query, counts_some, counts_unprepared, counts_until}
use Rattle.query_run.proofs.AnswerLemmas.{fails, fails-gathering, fails_query, finds, if_err, lent_records}
use Rattle.query_run.proofs.QueryLemmas.{readable_pipes}
use Rattle.query_run.proofs.evaluation.run_query.Goals as goal

pub made_of-requires-clause-readable : goal.made_of-requires-clause-readable
made_of-requires-clause-readable g c =
    let query = question c.args.query.now in
    let stages : map stage c.as_slice-2.result.now ≡ query.stages = ap (map stage) c.as_slice-2.ensures in
    subst (λ stages. AllByRecursion CanBeRead (flat_map patterns_of_stage stages)) (sym stages)
    (readable_pipes query c.in_ok-filter.ensures.readable)

pub returns-clause-found : goal.returns-clause-found
returns-clause-found g c = λ history stands.
    let query = question c.args.query.now in
    let stages : map stage c.as_slice-2.result.now ≡ query.stages = ap (map stage) c.as_slice-2.ensures in
    let lent = c.in_ok-lent.lent.items in
    let same : map (λ row. row.now) lent ≡ c.in_ok-rows.rows.items = c.in_ok-lent.ensures ∙ c.as_slice.ensures.value in
    let fits : FitsSigned w64 c.args.now = c.ranges.now in
    let rows = simp to_z-of_z at c.in_ok-rows.ensures.rows in
    let few : length (map (λ row. record_of row.now.numbered.row) lent) < row_limit =
    omega (
      arith,
      c.in_ok-rows.ensures.few,
      ap length same,
      length-map lent (λ row. row.now),
      length-map lent (λ row. record_of row.now.numbered.row),
    ) in
    finds query c.args.now (rows_of history) _
    (lent_records (λ (row : OpenRow). row.numbered.row) lent c.in_ok-rows.rows.items _ same (rows history stands))
    few _ (rw stages at c.in_ok-made_of.ensures.made)

pub returns-in_err-made_of-clause-fault : goal.returns-in_err-made_of-clause-fault
returns-in_err-made_of-clause-fault g c =
    let query = question c.args.query.now in
    let stages : map stage c.as_slice-2.result.now ≡ query.stages = ap (map stage) c.as_slice-2.ensures in
    let lent = c.in_ok-lent.lent.items in
    let same : map (λ row. row.now) lent ≡ c.in_ok-rows.rows.items = c.in_ok-lent.ensures ∙ c.as_slice.ensures.value in
    let fits : FitsSigned w64 c.args.now = c.ranges.now in
    let rows = simp to_z-of_z at c.in_ok-rows.ensures.rows in
    let few : length (map (λ row. record_of row.now.numbered.row) lent) < row_limit =
    omega (
      arith,
      c.in_ok-rows.ensures.few,
      ap length same,
      length-map lent (λ row. row.now),
      length-map lent (λ row. record_of row.now.numbered.row),
    ) in
    if_err c.from_residual-in_err-made_of.result _ _ c.from_residual-in_err-made_of.ensures.1
    (λ fault is history stands. subst (FailsRun query c.args.now (rows_of history)) (sym is)
    (fails_query query c.args.now (rows_of history) c.in_ok-filter.ensures.readable c.in_err-made_of.field-0.0
    (fails query c.args.now (rows_of history) _
    (lent_records (λ (row : OpenRow). row.numbered.row) lent c.in_ok-rows.rows.items _ same (rows history stands))
    few c.in_err-made_of.field-0.0 (rw stages at c.in_err-made_of.ensures.fault))))

pub returns-in_err-rows-clause-fault : goal.returns-in_err-rows-clause-fault
returns-in_err-rows-clause-fault g c =
    let query = question c.args.query.now in
    let fits : FitsSigned w64 c.args.now = c.ranges.now in
    let failed = simp to_z-of_z at c.in_err-rows.ensures.fault in
    if_err c.from_residual-in_err-rows.result _ _ c.from_residual-in_err-rows.ensures.1
    (λ fault is history stands. subst (FailsRun query c.args.now (rows_of history)) (sym is)
    (fails_query query c.args.now (rows_of history) c.in_ok-filter.ensures.readable c.in_err-rows.field-0.0
    (fails-gathering query c.args.now (rows_of history) c.in_err-rows.field-0.0 (failed history stands))))

pub returns-in_err-filter-clause-fault_steps : goal.returns-in_err-filter-clause-fault_steps
returns-in_err-filter-clause-fault_steps g c =
    let blocks = admitted (question c.args.query.now) c.args.now (parts_of c.args.snapshot.now) in
    if_err c.from_residual.result _ _ c.from_residual.ensures.1
    (λ fault is. subst (λ f. CountsUntilFault f c.args.steps.now blocks c.args.steps.now) (sym is)
    (counts_unprepared c.in_err-filter.field-0.0 c.args.steps.now blocks c.args.steps.now (omega arith) refl))

pub returns-in_err-rows-clause-fault_steps : goal.returns-in_err-rows-clause-fault_steps
returns-in_err-rows-clause-fault_steps g c =
    let blocks = admitted (question c.args.query.now) c.args.now (parts_of c.args.snapshot.now) in
    let fits : FitsSigned w64 c.args.now = c.ranges.now in
    if_err c.from_residual-in_err-rows.result _ _ c.from_residual-in_err-rows.ensures.1
    (λ fault is. subst (λ f. CountsUntilFault f c.args.steps.now blocks c.rows_matched.new.steps) (sym is)
    (counts_query c.in_err-rows.field-0.0 c.args.steps.now blocks c.rows_matched.new.steps
    (simp to_z-of_z at c.in_err-rows.ensures.fault_steps)))

pub returns-in_err-lent-clause-fault_steps : goal.returns-in_err-lent-clause-fault_steps
returns-in_err-lent-clause-fault_steps g c =
    let blocks = admitted (question c.args.query.now) c.args.now (parts_of c.args.snapshot.now) in
    let fits : FitsSigned w64 c.args.now = c.ranges.now in
    if_err c.from_residual-in_err-lent.result _ _ c.from_residual-in_err-lent.ensures.1
    (λ fault is. subst (λ f. CountsUntilFault f c.args.steps.now blocks c.rows_matched.new.steps) (sym is)
    (counts_some c.args.steps.now blocks blocks c.rows_matched.new.steps (omega arith)
    (simp to_z-of_z at c.in_ok-rows.ensures.steps) (omega arith)))

pub returns-in_err-made_of-clause-fault_steps : goal.returns-in_err-made_of-clause-fault_steps
returns-in_err-made_of-clause-fault_steps g c =
    let blocks = admitted (question c.args.query.now) c.args.now (parts_of c.args.snapshot.now) in
    let fits : FitsSigned w64 c.args.now = c.ranges.now in
    let fault = c.in_err-made_of.field-0.0 in
    if_err c.from_residual-in_err-made_of.result _ _ c.from_residual-in_err-made_of.ensures.1
    (λ f is. subst (λ f. CountsUntilFault f c.args.steps.now blocks c.rows_matched.new.steps) (sym is)
    (counts_query fault c.args.steps.now blocks c.rows_matched.new.steps
    (counts_until fault c.args.steps.now blocks c.rows_matched.new.steps (omega arith)
    (simp to_z-of_z at c.in_ok-rows.ensures.steps))))

pub returns-clause-steps : goal.returns-clause-steps
returns-clause-steps g c =
    let fits : FitsSigned w64 c.args.now = c.ranges.now in simp to_z-of_z at c.in_ok-rows.ensures.steps
