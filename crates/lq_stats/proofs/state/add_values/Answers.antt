use Rattle.std.proofs.Common.{◌++◌, ◌∙◌, ap, append-nil, refl, subst, sym, take, arith}
use Rattle.lq_ast.specs.Tuples.{tuple_of}
use Rattle.std.proofs.lemmas.List.{take_all}
use Rattle.log_model.specs.Field.{field_value}
use Rattle.lq_stats.proofs.Taking.{tuple_few, tuple_more}
use Rattle.lq_stats.specs.Measure.{AreMeasured}
use Rattle.lq_stats.proofs.state.add_values.Goals as goal

pub loop-name-init : goal.loop-name-init
loop-name-init c = (refl, λ values few h. subst (AreMeasured c.args.measure.now) (sym (append-nil values)) h)

pub loop-name-preserved : goal.loop-name-preserved
loop-name-preserved c = (
  c.add.ensures.call ∙ c.loop-name.invariant.0,
  λ values few h.
      let names = c.args.names.now in
      let r = c.args.fields.now in
      let i = c.loop-name.name-index in
      let before = values ++ tuple_of (take i names) r in
      subst (AreMeasured c.add.new.self)
      (tuple_more values names r i c.name-item.result c.get.result.now c.loop-name-test.true c.name-item.is
      (c.get.ensures ∙ ap (field_value r) c.as_str.ensures.value))
      (c.in_ok-add.ensures.taken before (tuple_few values names r i few) (c.loop-name.invariant.1 values few h)),
)

pub returns-in_err-add-clause-call : goal.returns-in_err-add-clause-call
returns-in_err-add-clause-call c = c.add.ensures.call ∙ c.loop-name.invariant.0

pub returns-clause-taken : goal.returns-clause-taken
returns-clause-taken c = λ values few h.
    subst (λ l. AreMeasured c.loop-name.measure (values ++ tuple_of l c.args.fields.now))
    (take_all c.loop-name.name-index c.args.names.now (omega arith)) (c.loop-name.invariant.1 values few h)
