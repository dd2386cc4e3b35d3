use Rattle.std.proofs.Common.{rules, ◌-◌, [], ◌∷◌, map, refl, sym, ap, ◌∙◌, arith}
use Rattle.std.specs.Option.{option_copied}
use Rattle.std.proofs.lemmas.List.{map-append}
use Rattle.std.proofs.lemmas.Result.{err_from_is_err_and}
use Rattle.grammar.specs.Reading.{mapped}
use Rattle.lq_ast.specs.Condition.{all_of, any_of}
use Rattle.lq_ast.specs.View.{condition}
use Rattle.lq_grammar.specs.declared.role.Role.TheVariants.{Or}
use Rattle.lq_grammar.specs.Roles.{any}
use Rattle.lq_grammar.specs.LogsQL.{and, next_unary, behind, negation, inner_negation, unary, inner}
use Rattle.lq_grammar.specs.LogsQL.{selector, time_end, row_unit, denied_of}
use Rattle.lq_grammar.specs.Clauses.{at}
use Rattle.lq_parse_filter.proofs.Behind.{behind_read, next_read}
use Rattle.lq_parse_filter.proofs.Denied.{not_read}
use Rattle.lq_parse_filter.proofs.Named.{name_read as unit_read, unit_unnamed}
use Rattle.lq_parse_filter.proofs.Turning.{fold_step, fold_shorter, name_read, deny_ok, fails_so, next_some}
use Rattle.lq_parse_filter.proofs.filter.+filter.Goals as goal

pub and-others-smaller : goal.and-others-smaller
and-others-smaller t c =
    fold_shorter c.args.depth (next_unary c.args.scope) (option_copied c.args.field) c.others.rest.now
    (condition c.in_ok-another.another) c.in_ok-another.behind.now (next_some c.args.scope) c.in_ok-another.ensures

pub and-others-preserved : goal.and-others-preserved
and-others-preserved t c = (
  omega arith,
  fold_step c.args.depth (next_unary c.args.scope) all_of (option_copied c.args.field)
      (map condition c.others.filters.items) _ c.others.rest.now
      (condition c.in_ok-another.another) c.in_ok-another.behind.now _ (next_some c.args.scope)
      (sym c.at_unary.ensures ∙ c.others-test.true) c.in_ok-another.ensures
      (ap (map condition) c.in_ok-push-2.ensures.items ∙ map-append condition c.others.filters.items _)
      c.others.invariant.1,
)

pub or-others-smaller : goal.or-others-smaller
or-others-smaller t c =
    fold_shorter c.args.depth (behind (any (Or ∷ [])) (and c.args.scope)) (option_copied c.args.field) c.others.rest.now
    (condition c.in_ok-another.another) c.in_ok-another.behind.now refl
    (ap (mapped (λ made. made (option_copied c.args.field)))
    (behind_read c.args.depth (any (Or ∷ [])) (and c.args.scope) c.others.rest.now c.in-Some.next.now c.in-Some.ensures)
    ∙ c.in_ok-another.ensures)

pub or-others-preserved : goal.or-others-preserved
or-others-preserved t c = (
  omega arith,
  fold_step c.args.depth (behind (any (Or ∷ [])) (and c.args.scope)) any_of (option_copied c.args.field)
      (map condition c.others.filters.items) _ c.others.rest.now
      (condition c.in_ok-another.another) c.in_ok-another.behind.now _ refl
      (next_read (any (Or ∷ [])) c.others.rest.now c.in-Some.next.now c.in-Some.ensures)
      (ap (mapped (λ made. made (option_copied c.args.field)))
      (behind_read c.args.depth (any (Or ∷ [])) (and c.args.scope) c.others.rest.now c.in-Some.next.now c.in-Some.ensures)
      ∙ c.in_ok-another.ensures)
      (ap (map condition) c.in_ok-push-2.ensures.items ∙ map-append condition c.others.filters.items _)
      c.others.invariant.1,
)

pub negation-returns : goal.negation-returns
negation-returns t c =
    ap (mapped (λ value. denied_of value (option_copied c.args.field)))
    (name_read c.args.depth (negation c.args.scope) c.args.tokens.now c.in_ok-rest.rest.now (omega arith) c.in_ok-rest.ensures)
    ∙ deny_ok (option_copied c.args.field) (at (c.args.depth - 1) (unary c.args.scope) c.in_ok-rest.rest.now)
    (condition c.in_ok-filter.filter) c.in_ok-filter.rest.now c.in_ok-filter.ensures
    ∙ not_read c.in_ok-new.field-0 c.in_ok-filter.filter c.in_ok-filter.rest.now c.in_ok-new.ensures.ok

pub negation-returns-in_err-filter : goal.negation-returns-in_err-filter
negation-returns-in_err-filter t c =
    let p = err_from_is_err_and c.from_residual-in_err-filter.result c.from_residual-in_err-filter.ensures.1 in
    rw (
      p.1,
      p.2,
      name_read c.args.depth (negation c.args.scope) c.args.tokens.now c.in_ok-rest.rest.now
          (omega arith) c.in_ok-rest.ensures,
    )
    (fails_so _ (option_copied c.args.field) (at (c.args.depth - 1) (unary c.args.scope) c.in_ok-rest.rest.now)
    c.in_err-filter.ensures)

pub inner_negation-returns : goal.inner_negation-returns
inner_negation-returns t c =
    ap (mapped (λ value. denied_of value (option_copied c.args.field)))
    (name_read c.args.depth (inner_negation c.args.scope) c.args.tokens.now c.in_ok-rest.rest.now (omega arith) c.in_ok-rest.ensures)
    ∙ deny_ok (option_copied c.args.field) (at (c.args.depth - 1) (inner c.args.scope) c.in_ok-rest.rest.now)
    (condition c.in_ok-filter.filter) c.in_ok-filter.rest.now c.in_ok-filter.ensures
    ∙ not_read c.in_ok-new.field-0 c.in_ok-filter.filter c.in_ok-filter.rest.now c.in_ok-new.ensures.ok

pub inner_negation-returns-in_err-filter : goal.inner_negation-returns-in_err-filter
inner_negation-returns-in_err-filter t c =
    let p = err_from_is_err_and c.from_residual-in_err-filter.result c.from_residual-in_err-filter.ensures.1 in
    rw (
      p.1,
      p.2,
      name_read c.args.depth (inner_negation c.args.scope) c.args.tokens.now c.in_ok-rest.rest.now
          (omega arith) c.in_ok-rest.ensures,
    )
    (fails_so _ (option_copied c.args.field) (at (c.args.depth - 1) (inner c.args.scope) c.in_ok-rest.rest.now)
    c.in_err-filter.ensures)

pub row_unit-returns-in_err-select : goal.row_unit-returns-in_err-select
unfolding row_unit selector time_end
row_unit-returns-in_err-select t c = search rules

pub row_unit-returns-in-Some-past : goal.row_unit-returns-in-Some-past
unfolding row_unit selector time_end
row_unit-returns-in-Some-past t c = search rules

pub row_unit-returns-in-Some : goal.row_unit-returns-in-Some
unfolding row_unit selector time_end
row_unit-returns-in-Some t c = search rules

pub row_unit-returns-in-Some-past-2 : goal.row_unit-returns-in-Some-past-2
unfolding row_unit selector time_end
row_unit-returns-in-Some-past-2 t c = search rules

pub row_unit-returns-in-Some-text_past : goal.row_unit-returns-in-Some-text_past
unfolding row_unit selector time_end
row_unit-returns-in-Some-text_past t c = search rules

pub row_unit-returns-in-Some-text_past-2 : goal.row_unit-returns-in-Some-text_past-2
unfolding row_unit selector time_end
row_unit-returns-in-Some-text_past-2 t c = search rules

pub row_unit-returns : goal.row_unit-returns
unfolding row_unit selector time_end
row_unit-returns t c = search rules

pub word_unit-returns-in-Some : goal.word_unit-returns-in-Some
word_unit-returns-in-Some t c =
    rw (unit_read c.args.depth c.args.scope c.args.tokens.now c.in-Some.rest.now (option_copied c.args.field)
    c.in-Some.name.now c.name_of.result.now c.in-Some.ensures c.name_of.ensures) c.inner.ensures

pub word_unit-returns : goal.word_unit-returns
word_unit-returns t c =
    rw (unit_unnamed c.args.depth c.args.scope c.args.tokens.now c.in_default.ensures) (c.led.ensures c.args.depth)
