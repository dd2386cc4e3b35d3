use Rattle.std.proofs.Common.{sym, ◌∙◌}
use Rattle.clap.specs.Matches.{found_of}
use Rattle.clap.specs.Walk.{rows_of}
use Rattle.command_line.proofs.Functional.{loaded, piped, queried, refused_more, served, tried}
use Rattle.command_line.proofs.reading.command_of.Goals as goal

pub returns-in-pipe-clause-usage : goal.returns-in-pipe-clause-usage
returns-in-pipe-clause-usage c =
    let values = rows_of (found_of c.args.values.now) in
    refused_more c.pipe.result
    (λ none d name. piped values (λ _. ⊥) none d (sym c.in-pipe.is ∙ name))
    c.pipe.ensures.usage

pub returns-in-load-clause-usage : goal.returns-in-load-clause-usage
returns-in-load-clause-usage c =
    let values = rows_of (found_of c.args.values.now) in
    refused_more c.load.result
    (λ none d name. loaded values (λ _. ⊥) none d (sym c.in-load.is ∙ name))
    c.load.ensures.usage

pub returns-in-query-clause-usage : goal.returns-in-query-clause-usage
returns-in-query-clause-usage c =
    let values = rows_of (found_of c.args.values.now) in
    refused_more c.query.result
    (λ none d name. queried values (λ _. ⊥) none d (sym c.in-query.is ∙ name))
    c.query.ensures.usage

pub returns-in-trial-clause-usage : goal.returns-in-trial-clause-usage
returns-in-trial-clause-usage c =
    let values = rows_of (found_of c.args.values.now) in
    refused_more c.trial.result
    (λ none d name. tried values (λ _. ⊥) none d (sym c.in-trial.is ∙ name))
    c.trial.ensures.usage

pub returns-in-serve-clause-usage : goal.returns-in-serve-clause-usage
returns-in-serve-clause-usage c =
    let values = rows_of (found_of c.args.values.now) in
    refused_more c.serve.result
    (λ none d name. served values (λ _. ⊥) none d (sym c.in-serve.is ∙ name))
    c.serve.ensures.usage
