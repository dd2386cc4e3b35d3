use Rattle.std.proofs.Common.{ap, sym, ◌∙◌}
use Rattle.grammar.specs.Rule.{next}
use Rattle.grammar.specs.Reading.{first}
use Rattle.lq_grammar.specs.declared.scope.Scope.{Scope}
use Rattle.lq_grammar.specs.LogsQL.{heads, next_unary}
use Rattle.lq_parse_filter.proofs.Firsts.{record_first}
use Rattle.lq_parse_filter.proofs.filter.at_unary.Goals as goal

pub returns-in-Rows : goal.returns-in-Rows
returns-in-Rows c =
    c.at_row_unary.ensures
    ∙ ap (λ (scope : Scope). next (first heads (next_unary scope)) c.args.tokens.now) (sym c.in-Rows.is)

pub returns-in-Records : goal.returns-in-Records
returns-in-Records c =
    c.at.ensures ∙ record_first c.args.tokens.now
    ∙ ap (λ (scope : Scope). next (first heads (next_unary scope)) c.args.tokens.now) (sym c.in-Records.is)
