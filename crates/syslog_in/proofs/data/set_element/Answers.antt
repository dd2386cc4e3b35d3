use Rattle.std.proofs.lemmas.Result.{IfOk-weaker}
use Rattle.syslog_in.proofs.Elements.{element_one, element_any, element_none}
use Rattle.syslog_in.proofs.data.set_element.Goals as goal

pub returns-in-Some-clause-one : goal.returns-in-Some-clause-one
returns-in-Some-clause-one c =
    IfOk-weaker c.set_params.result _ _ (λ found h. element_one c.args.text.now c.args.fields.now _ c.in-Some.id.now
    c.in-Some.rest.now _ c.in-Some.ensures h) c.set_params.ensures.one

pub returns-in-Some-clause-any : goal.returns-in-Some-clause-any
returns-in-Some-clause-any c =
    IfOk-weaker c.set_params.result _ _ (λ found h. element_any c.args.text.now c.args.fields.now _ c.in-Some.id.now
    c.in-Some.rest.now _ c.in-Some.ensures h) c.set_params.ensures.any

pub returns-in-None-clause-any : goal.returns-in-None-clause-any
returns-in-None-clause-any c = element_none c.args.text.now c.args.fields.now _ c.in-None.ensures
