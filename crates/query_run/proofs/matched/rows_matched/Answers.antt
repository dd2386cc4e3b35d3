use Rattle.std.proofs.Common.{◌≡◌, ◌∙◌, FitsSigned, ap, arith, flat_map, length, rules, subst, sym, w64}
use Rattle.std.proofs.lemmas.Int.{to_z-of_z}
use Rattle.log_model.specs.Core.{parts_of}
use Rattle.log_model.specs.History.{numbered, rows_of}
use Rattle.lq_ast.specs.Evaluation.{rows_that_hold}
use Rattle.lq_ast.specs.Question.{question}
use Rattle.lq_ast.specs.View.{condition}
use Rattle.lq_filter.specs.Tree.{condition_of}
use Rattle.lq_prune.specs.Need.{need_of}
use Rattle.lq_prune.specs.Pruning.{MissesNoneOfAll}
use Rattle.part_model.specs.Filling.{blocks_of}
use Rattle.query_run.specs.Answer.{FailsMatching, gathering_fault}
use Rattle.query_run.specs.Opened.{Counts, CountsAtMost, CountsUntil, admitted, admitted_by}
use Rattle.query_run.proofs.Opening.{counts_none, counts_some, counts_until}
use Rattle.query_run.proofs.AnswerLemmas.{fails_gathered, have_matches, if_err, rows_numbered}
use Rattle.query_run.proofs.matched.rows_matched.Goals as goal

pub returns-clause-rows : goal.returns-clause-rows
returns-clause-rows g c = λ history stands.
    let asked = c.args.asked in
    let fits : FitsSigned w64 asked.moment = search rules in
    let query = condition asked.query.now.filter in
    let misses : MissesNoneOfAll asked.moment query =
    c.pruning_law.ensures asked.moment query (simp to_z-of_z at c.in_ok-need.ensures.none_missed) in
    let are = c.as_slice.ensures.value ∙ c.in_ok-opened.ensures.opened
    ∙ ap (λ n. admitted_by n (flat_map blocks_of (parts_of c.args.snapshot.now))) (simp to_z-of_z at c.in_ok-need.ensures.need) in
    let have = have_matches query asked.moment c.as_slice.result.now c.args.snapshot.now history are
    c.in_ok-opened.ensures.texts misses stands in
    let found = rw c.requires at (simp to_z-of_z at c.in_ok-matching_rows.ensures.rows) in
    found (numbered history) have ∙ ap (rows_that_hold query asked.moment) (rows_numbered history)

pub returns-in_err-matching_rows-clause-fault : goal.returns-in_err-matching_rows-clause-fault
returns-in_err-matching_rows-clause-fault g c =
    let asked = c.args.asked in
    let fits : FitsSigned w64 asked.moment = search rules in
    let query = condition asked.query.now.filter in
    let misses : MissesNoneOfAll asked.moment query =
    c.pruning_law.ensures asked.moment query (simp to_z-of_z at c.in_ok-need.ensures.none_missed) in
    let are = c.as_slice.ensures.value ∙ c.in_ok-opened.ensures.opened
    ∙ ap (λ n. admitted_by n (flat_map blocks_of (parts_of c.args.snapshot.now))) (simp to_z-of_z at c.in_ok-need.ensures.need) in
    let failed = rw c.requires at (simp to_z-of_z at c.in_err-matching_rows.ensures.fault) in
    if_err c.from_residual-in_err-matching_rows.result _ _ c.from_residual-in_err-matching_rows.ensures.1
    (λ fault is history stands.
    subst (FailsMatching (rows_that_hold query asked.moment (rows_of history))) (sym is)
    (fails_gathered query asked.moment history c.in_err-matching_rows.field-0.0
    (failed (numbered history)
    (have_matches query asked.moment c.as_slice.result.now c.args.snapshot.now history are
    c.in_ok-opened.ensures.texts misses stands))))

pub returns-in_err-need-clause-fault_steps : goal.returns-in_err-need-clause-fault_steps
returns-in_err-need-clause-fault_steps g c =
    let asked = c.args.asked in
    let blocks = admitted (question asked.query.now) asked.moment (parts_of c.args.snapshot.now) in
    if_err c.from_residual.result _ _ c.from_residual.ensures.1
    (λ fault is. subst (λ f. CountsUntil f c.args.steps.now blocks c.args.steps.now) (sym is)
    (counts_some c.args.steps.now 0 blocks c.args.steps.now (omega arith)
    (counts_none c.args.steps.now (omega arith)) (omega arith)))

pub returns-in_err-opened-clause-fault_steps : goal.returns-in_err-opened-clause-fault_steps
returns-in_err-opened-clause-fault_steps g c =
    let asked = c.args.asked in
    let fits : FitsSigned w64 asked.moment = search rules in
    let need = simp to_z-of_z at c.in_ok-need.ensures.need in
    let blocks = admitted (question asked.query.now) asked.moment (parts_of c.args.snapshot.now) in
    let few = subst (λ n. CountsAtMost c.args.steps.now
    (length (admitted_by n (flat_map blocks_of (parts_of c.args.snapshot.now)))) c.open_admitted.new.steps) need
    c.in_err-opened.ensures.few_steps in
    if_err c.from_residual-in_err-opened.result _ _ c.from_residual-in_err-opened.ensures.1
    (λ fault is. subst (λ f. CountsUntil f c.args.steps.now blocks c.open_admitted.new.steps) (sym is) few)

pub returns-in_err-matching_rows-clause-fault_steps : goal.returns-in_err-matching_rows-clause-fault_steps
returns-in_err-matching_rows-clause-fault_steps g c =
    let asked = c.args.asked in
    let fits : FitsSigned w64 asked.moment = search rules in
    let need = simp to_z-of_z at c.in_ok-need.ensures.need in
    let blocks = admitted (question asked.query.now) asked.moment (parts_of c.args.snapshot.now) in
    let counted = subst (λ n. Counts c.args.steps.now
    (length (admitted_by n (flat_map blocks_of (parts_of c.args.snapshot.now)))) c.open_admitted.new.steps) need
    c.in_ok-opened.ensures.steps in
    if_err c.from_residual-in_err-matching_rows.result _ _ c.from_residual-in_err-matching_rows.ensures.1
    (λ fault is. subst (λ f. CountsUntil f c.args.steps.now blocks c.open_admitted.new.steps) (sym is)
    (counts_until (gathering_fault c.in_err-matching_rows.field-0.0) c.args.steps.now blocks c.open_admitted.new.steps
    (omega arith) counted))

pub returns-clause-steps : goal.returns-clause-steps
returns-clause-steps g c =
    let asked = c.args.asked in
    let fits : FitsSigned w64 asked.moment = search rules in
    let need = simp to_z-of_z at c.in_ok-need.ensures.need in
    subst (λ n. Counts c.args.steps.now
    (length (admitted_by n (flat_map blocks_of (parts_of c.args.snapshot.now)))) c.open_admitted.new.steps) need
    c.in_ok-opened.ensures.steps
