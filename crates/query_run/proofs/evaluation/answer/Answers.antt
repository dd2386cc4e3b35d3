use Rattle.std.proofs.Common.{◌≡◌, ◌∙◌, ◌<◌, FitsSigned, ap, arith, flat_map, length, map, subst, sym, w64}
use Rattle.std.proofs.lemmas.Int.{to_z-of_z}
use Rattle.std.specs.List.{AllByRecursion}
use Rattle.std.proofs.lemmas.List.{length-map}
use Rattle.column_block.specs.declared.open_row.OpenRow.{OpenRow}
use Rattle.log_model.specs.Core.{parts_of}
use Rattle.log_model.specs.History.{rows_of}
use Rattle.log_model.specs.Row.{record_of}
use Rattle.lq_ast.specs.Evaluation.{row_limit}
use Rattle.lq_ast.specs.Patterns.{CanBeRead, patterns_of_stage}
use Rattle.lq_ast.specs.PipeView.{stage}
use Rattle.lq_ast.specs.Question.{question}
use Rattle.lq_ast.specs.declared.query.Query.{Query}
use Rattle.query_run.proofs.AnswerLemmas.{answers, any_err, any_ok, err_so, fails, lent_records, ok_so}
use Rattle.query_run.specs.Opened.{Counts, CountsUntil, admitted}
use Rattle.query_run.proofs.Opening.{counts_until}
use Rattle.query_run.proofs.QueryLemmas.{readable_pipes}
use Rattle.query_run.proofs.evaluation.answer.Goals as goal

pub piped_lines-requires-clause-readable : goal.piped_lines-requires-clause-readable
piped_lines-requires-clause-readable g c =
    let query = question c.args.search.now in
    let stages : map stage c.as_slice-2.result.now ≡ query.stages =
    ap (map stage) c.as_slice-2.ensures ∙ ap (λ (q : Query). map stage q.pipes) c.query-query.ensures.same in
    subst (λ stages. AllByRecursion CanBeRead (flat_map patterns_of_stage stages)) (sym stages)
    (readable_pipes query c.query-query.ensures.readable)

pub returns-clause-answered : goal.returns-clause-answered
returns-clause-answered g c =
    let query = question c.args.search.now in
    let stages : map stage c.as_slice-2.result.now ≡ query.stages =
    ap (map stage) c.as_slice-2.ensures ∙ ap (λ (q : Query). map stage q.pipes) c.query-query.ensures.same in
    let lent = c.in_ok-lent.lent.items in
    let same : map (λ row. row.now) lent ≡ c.in_ok-rows.rows.items = c.in_ok-lent.ensures ∙ c.as_slice.ensures.value in
    let fits : FitsSigned w64 c.args.now = c.ranges.now in
    let rows = rw c.query-query.ensures.same at (simp to_z-of_z at c.in_ok-rows.ensures.rows) in
    let few : length (map (λ row. record_of row.now.numbered.row) lent) < row_limit =
    omega (
      arith,
      c.in_ok-rows.ensures.few,
      ap length same,
      length-map lent (λ row. row.now),
      length-map lent (λ row. record_of row.now.numbered.row),
    ) in
    ok_so c.piped_lines.result _ _ (rw stages at c.piped_lines.ensures.made)
    (λ text printed history stands. answers query c.args.now (rows_of history) _
    (lent_records (λ (row : OpenRow). row.numbered.row) lent c.in_ok-rows.rows.items _ same (rows history stands))
    few text printed)

pub returns-clause-fault : goal.returns-clause-fault
returns-clause-fault g c =
    let query = question c.args.search.now in
    let stages : map stage c.as_slice-2.result.now ≡ query.stages =
    ap (map stage) c.as_slice-2.ensures ∙ ap (λ (q : Query). map stage q.pipes) c.query-query.ensures.same in
    let lent = c.in_ok-lent.lent.items in
    let same : map (λ row. row.now) lent ≡ c.in_ok-rows.rows.items = c.in_ok-lent.ensures ∙ c.as_slice.ensures.value in
    let fits : FitsSigned w64 c.args.now = c.ranges.now in
    let rows = rw c.query-query.ensures.same at (simp to_z-of_z at c.in_ok-rows.ensures.rows) in
    let few : length (map (λ row. record_of row.now.numbered.row) lent) < row_limit =
    omega (
      arith,
      c.in_ok-rows.ensures.few,
      ap length same,
      length-map lent (λ row. row.now),
      length-map lent (λ row. record_of row.now.numbered.row),
    ) in
    err_so c.piped_lines.result _ _ (rw stages at c.piped_lines.ensures.fault)
    (λ fault failed history stands. fails query c.args.now (rows_of history) _
    (lent_records (λ (row : OpenRow). row.numbered.row) lent c.in_ok-rows.rows.items _ same (rows history stands))
    few fault failed)

pub returns-clause-steps : goal.returns-clause-steps
returns-clause-steps g c =
    let fits : FitsSigned w64 c.args.now = c.ranges.now in
    any_ok c.piped_lines.result _ (rw c.query-query.ensures.same at (simp to_z-of_z at c.in_ok-rows.ensures.steps))

pub returns-clause-fault_steps : goal.returns-clause-fault_steps
returns-clause-fault_steps g c =
    let fits : FitsSigned w64 c.args.now = c.ranges.now in
    let blocks = admitted (question c.args.search.now) c.args.now (parts_of c.args.snapshot.now) in
    let counted = rw c.query-query.ensures.same at (simp to_z-of_z at c.in_ok-rows.ensures.steps) in
    any_err c.piped_lines.result _
    (λ fault. counts_until fault c.args.steps.now blocks c.rows_matched.new.steps (omega arith) counted)
