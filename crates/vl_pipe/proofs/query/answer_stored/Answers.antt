use Rattle.std.proofs.Common.{unsigned_abs, subst}
use Rattle.log_model.specs.History.{batches_in, rows_of}
use Rattle.vl_io.specs.Change.{change_of}
use Rattle.lone_desk.proofs.QueryLemmas.{same_moment}
use Rattle.lone_desk.specs.Question.{question}
use Rattle.vl_pipe.specs.Stored.{EndsAnswer}
use Rattle.vl_pipe.specs.VaultChange.{vault_change}
use Rattle.vl_pipe.proofs.QueryLemmas.{asked_over, is_opened}
use Rattle.vl_pipe.proofs.query.answer_stored.Goals as goal

pub returns-clause-ends : goal.returns-clause-ends
returns-clause-ends g c =
    let told = g.V.Vault.is_told in
    let query = question c.args.prepared.now.search.now in
    let moment = c.args.prepared.now.asked.now.moment in
    let seen = c.in-Ok.opened.0 in
    let store = c.in-Ok.opened.1 in
    let before = g.V.Vault.past c.args.vault in
    let vault = vault_change g.V.Vault.past g.V.Vault.faults c.args.vault c.into_vault.result in
    let output = change_of g.O.Sink.written g.O.Sink.faults c.args.out.now c.tell_answer-status.new.out in
    let errors = change_of g.E.Sink.written g.E.Sink.faults c.args.err.now c.tell_answer-status.new.err in
    let opened = is_opened told before store (batches_in seen.history) c.in-Ok.ensures.opened.0.whole
    c.in-Ok.ensures.holds in
    asked_over told query (unsigned_abs moment) vault output errors seen opened moment
    (same_moment moment c.requires.moment) c.tell_answer-status.result
    (subst (λ err. EndsAnswer query moment (rows_of seen.history) output
    (change_of g.E.Sink.written g.E.Sink.faults err c.tell_answer-status.new.err) c.tell_answer-status.result)
    c.in-Ok.ensures.opened.1 c.tell_answer-status.ensures.ends)
