use Rattle.std.proofs.Common.{◌∙◌}
use Rattle.std.proofs.lemmas.Result.{IfOk-weaker}
use Rattle.syslog_in.proofs.Params.{no_name, no_equals, no_quote, value_one, value_any}
use Rattle.syslog_in.proofs.data.set_param.Goals as goal

pub returns-in_default-clause-any : goal.returns-in_default-clause-any
returns-in_default-clause-any c = no_name c.args.id.now c.args.text.now c.args.fields.now _ c.in_default.ensures

pub returns-in_default-past-clause-any : goal.returns-in_default-past-clause-any
returns-in_default-past-clause-any c =
    no_equals c.args.id.now c.args.text.now c.args.fields.now _ c.in-Some.name.now c.in-Some.rest.now c.in-Some.ensures
    c.in_default-past.ensures

pub returns-in_default-past-2-clause-any : goal.returns-in_default-past-2-clause-any
returns-in_default-past-2-clause-any c =
    no_quote c.args.id.now c.args.text.now c.args.fields.now _ c.in-Some.name.now c.in-Some.rest.now
    c.in-Some-past.quoted.now c.in-Some.ensures c.in-Some-past.ensures c.in_default-past-2.ensures

pub returns-clause-one : goal.returns-clause-one
returns-clause-one c =
    IfOk-weaker c.set_value.result _ _ (λ left.
    value_one c.args.id.now c.args.text.now c.args.fields.now _ c.in-Some.name.now c.in-Some.rest.now
    c.in-Some-past.quoted.now c.in-Some-past-2.inside.now c.as_str.result.now _ c.in-Some.ensures
    c.in-Some-past.ensures c.in-Some-past-2.ensures (c.as_str.ensures.value ∙ c.in_ok-field.ensures))
    c.set_value.ensures

pub returns-clause-any : goal.returns-clause-any
returns-clause-any c =
    IfOk-weaker c.set_value.result _ _ (λ left.
    value_any c.args.id.now c.args.text.now c.args.fields.now _ c.in-Some.name.now c.in-Some.rest.now
    c.in-Some-past.quoted.now c.in-Some-past-2.inside.now c.as_str.result.now _ c.in-Some.ensures
    c.in-Some-past.ensures c.in-Some-past-2.ensures (c.as_str.ensures.value ∙ c.in_ok-field.ensures))
    c.set_value.ensures
