use Rattle.std.proofs.Common.{◌≡◌, ◌∙◌, sym, subst}
use Rattle.std.specs.List.{AllByRecursion}
use Rattle.lq_ast.specs.Patterns.{CanBeRead, all_patterns}
use Rattle.lq_ast.specs.Question.{question}
use Rattle.query_run.proofs.AnswerLemmas.{if_err}
use Rattle.query_run.proofs.QueryLemmas.{not_asked, only_memory, only_memory_of, same_query}
use Rattle.query_run.proofs.query.read_query.Goals as goal

pub returns-in_err-query-clause-readable : goal.returns-in_err-query-clause-readable
returns-in_err-query-clause-readable c (asked, spelled, all) =
    if_err c.from_residual.result _ _ c.from_residual.ensures.1
    (λ refused is. is ∙ only_memory _ asked c.in_err-query.field-0.0 (c.in_err-query.ensures.complete asked spelled))

pub returns-in_err-filter-clause-readable : goal.returns-in_err-filter-clause-readable
returns-in_err-filter-clause-readable c (asked, spelled, all) =
    let read = question c.in_ok-query.query in
    let same : read ≡ asked =
    same_query _ c.in_ok-query.query read asked (c.in_ok-query.ensures.complete asked spelled) in
    if_err c.from_residual-in_err-filter.result _ _ c.from_residual-in_err-filter.ensures.1
    (λ refused is. is ∙ only_memory_of (all_patterns read)
    (subst (λ query. AllByRecursion CanBeRead (all_patterns query)) (sym same) all) c.in_err-filter.field-0.0
    c.in_err-filter.ensures.refused)

pub returns-clause-unasked : goal.returns-clause-unasked
returns-clause-unasked c none =
    let read = question c.in_ok-query.query in
    absurd (not_asked c.args.text.now read c.in_ok-query.ensures.spelled
    (λ other spelled. same_query _ c.in_ok-query.query read other (c.in_ok-query.ensures.complete other spelled))
    c.in_ok-filter.ensures.readable none)

pub returns-clause-patterns : goal.returns-clause-patterns
returns-clause-patterns c =
    subst (λ query. AllByRecursion CanBeRead (all_patterns (question query))) (sym c.of.ensures)
    c.in_ok-filter.ensures.readable
