use Rattle.std.proofs.Common.{◌≡◌, ap, map, subst, sym, ◌∙◌, arith}
use Rattle.std.proofs.lemmas.List.{take_all}
use Rattle.log_model.specs.Field.{field_value}
use Rattle.lq_ast.specs.Tuples.{tuple_of}
use Rattle.lq_plain.specs.Named.{IsNamed}
use Rattle.lq_plain.proofs.Naming.{values_named}
use Rattle.lq_plain.proofs.tuple.tuple_of.Goals as goal

pub returns-clause-named : goal.returns-clause-named
returns-clause-named c =
    let names = c.args.names.now in
    let is : c.of.result ≡ tuple_of names c.args.fields.now = c.of.ensures ∙ c.loop-name.invariant
    ∙ ap (map (field_value c.args.fields.now)) (take_all c.loop-name.name-index names (omega arith)) in
    subst (IsNamed names) (sym is) (values_named names c.args.fields.now c.as_slice.ensures.rules)
