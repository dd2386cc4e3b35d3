use Rattle.std.proofs.lemmas.Result.{err_from_is_err_and}
use Rattle.lq_lex.proofs.Collecting.{lexed_err, only_err, only_ok}
use Rattle.lq_lex.proofs.lex.tokens.Goals as goal

pub returns-in_err-list-clause-lexed : goal.returns-in_err-list-clause-lexed
returns-in_err-list-clause-lexed c =
    let p = err_from_is_err_and c.from_residual.result c.from_residual.ensures.1 in
    rw (p.1, p.2) (lexed_err c.args.s.now _ c.if-s-gt-LIMIT.false c.in_err-list.ensures)

pub returns-in_err-list-clause-only : goal.returns-in_err-list-clause-only
returns-in_err-list-clause-only c =
    let p = err_from_is_err_and c.from_residual.result c.from_residual.ensures.1 in
    rw (p.1, p.2) (only_err c.args.s.now _ c.if-s-gt-LIMIT.false c.in_err-list.ensures)

pub returns-clause-only : goal.returns-clause-only
returns-clause-only c lexed h other = only_ok c.args.s.now c.in_ok-list.list.items c.if-s-gt-LIMIT.false c.in_ok-list.ensures lexed h
