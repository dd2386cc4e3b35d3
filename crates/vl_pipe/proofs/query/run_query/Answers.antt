use Rattle.std.proofs.Common.{refl, unsigned_abs}
use Rattle.vl_io.specs.Change.{change_of}
use Rattle.vl_vault.specs.Moments.{now}
use Rattle.lone_desk.specs.Question.{question}
use Rattle.vl_pipe.specs.Stored.{QueryRun}
use Rattle.vl_pipe.specs.VaultChange.{vault_change}
use Rattle.vl_pipe.proofs.QueryLemmas.{ends_query}
use Rattle.vl_pipe.proofs.query.run_query.Goals as goal

pub returns-in-Ok-clause-ends : goal.returns-in-Ok-clause-ends
returns-in-Ok-clause-ends g c =
    let run : QueryRun = record {
      text = c.args.asked.now.text.now;
      now = unsigned_abs c.args.asked.now.moment;
      vault = vault_change g.V.Vault.past g.V.Vault.faults c.args.vault c.answer_stored.result.1;
      output = change_of g.O.Sink.written g.O.Sink.faults c.args.out.now c.answer_stored.new.out;
      errors = change_of g.E.Sink.written g.E.Sink.faults c.args.err.now c.answer_stored.new.err;
    } in
    ends_query g.V.Vault.is_told run c.answer_stored.result.0 c.args.asked.now.text.now (question c.in-Ok.search) refl
    c.in-Ok.ensures.read c.in-Ok.ensures.patterns c.in-Ok.ensures.unasked c.answer_stored.ensures.ends

pub returns-in-Err-clause-survives : goal.returns-in-Err-clause-survives
returns-in-Err-clause-survives g c = λ tells leaves held finds. now finds
