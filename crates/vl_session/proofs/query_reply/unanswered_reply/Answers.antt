use Rattle.std.proofs.Common.{ap, sym, ◌∙◌, Some}
use Rattle.vl_session.specs.Answer.{query_outcome_of}
use Rattle.vl_session.specs.Query.{overflows, unreadable, unspelled}
use Rattle.vl_session.proofs.query_reply.unanswered_reply.Goals as goal

pub returns-in_ok-text-in-Query : goal.returns-in_ok-text-in-Query
returns-in_ok-text-in-Query c = (unspelled c.in-Query.fault, ap query_outcome_of c.in-Query.is, c.in_ok-text-in-Query.ensures)

pub returns-in_ok-text-in-RegexRefused : goal.returns-in_ok-text-in-RegexRefused
returns-in_ok-text-in-RegexRefused c =
    (unreadable c.in-RegexRefused.nth, ap query_outcome_of c.in-RegexRefused.is, c.in_ok-text-in-RegexRefused.ensures)

pub returns-in_ok-text-in-Overflow : goal.returns-in_ok-text-in-Overflow
returns-in_ok-text-in-Overflow c = (
  overflows c.as_str.result.now,
  ap query_outcome_of c.in-Overflow.is ∙ ap (λ name. Some (overflows name)) (sym c.as_str.ensures.value),
  c.in_ok-text-in-Overflow.ensures,
)
