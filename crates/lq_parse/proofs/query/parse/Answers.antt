use Rattle.std.proofs.lemmas.Result.{err_from_is_err_and}
use Rattle.lq_parse.proofs.Stops.{lex_when, spelled_when, complete_when, only_when}
use Rattle.lq_parse.proofs.query.parse.Goals as goal

pub returns-in_err-tokens-clause-found : goal.returns-in_err-tokens-clause-found
returns-in_err-tokens-clause-found c =
    lex_when c.args.s.now c.from_residual.result c.in_err-tokens.field-0.0 c.in_err-tokens.ensures.lexed
    (err_from_is_err_and c.from_residual.result c.from_residual.ensures.1)

pub returns-in_err-tokens-clause-only : goal.returns-in_err-tokens-clause-only
returns-in_err-tokens-clause-only c =
    only_when c.args.s.now c.from_residual.result
    (lex_when c.args.s.now c.from_residual.result c.in_err-tokens.field-0.0 c.in_err-tokens.ensures.lexed
    (err_from_is_err_and c.from_residual.result c.from_residual.ensures.1))

pub returns-clause-spelled : goal.returns-clause-spelled
returns-clause-spelled c = spelled_when c.args.s.now c.query_of.result c.query_of.ensures

pub returns-clause-only : goal.returns-clause-only
returns-clause-only c = only_when c.args.s.now c.query_of.result c.query_of.ensures

pub returns-in_err-tokens-clause-complete : goal.returns-in_err-tokens-clause-complete
returns-in_err-tokens-clause-complete c =
    complete_when c.args.s.now c.from_residual.result
    (lex_when c.args.s.now c.from_residual.result c.in_err-tokens.field-0.0 c.in_err-tokens.ensures.lexed
    (err_from_is_err_and c.from_residual.result c.from_residual.ensures.1))

pub returns-clause-complete : goal.returns-clause-complete
returns-clause-complete c = complete_when c.args.s.now c.query_of.result c.query_of.ensures
