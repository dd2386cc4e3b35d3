use Rattle.syslog_in.proofs.Elements.{one_param, last_any, stuck_any, param_shorter}
use Rattle.syslog_in.proofs.data.set_params.Goals as goal

pub returns-in_default-clause-any : goal.returns-in_default-clause-any
returns-in_default-clause-any c =
    last_any c.args.id.now c.args.text.now c.params.rest.now c.args.fields.now c.params.fields c.params.invariant _
    c.in_default.ensures c.past-in_default.ensures

pub params-preserved : goal.params-preserved
params-preserved c =
    one_param c.args.id.now c.args.text.now c.params.rest.now c.args.fields.now c.params.fields c.params.invariant
    c.in-Some.param.now c.in-Some-2.after.now c.set_param.new.fields c.in-Some.ensures
    (rw c.in-Some-2.is at c.in_ok-after.ensures.one) (rw c.in-Some-2.is at c.in_ok-after.ensures.any)

pub params-smaller : goal.params-smaller
params-smaller c =
    param_shorter c.args.id.now c.args.text.now c.params.rest.now c.args.fields.now c.params.fields c.params.invariant
    c.in-Some.param.now c.in-Some-2.after.now c.set_param.new.fields c.in-Some.ensures
    (rw c.in-Some-2.is at c.in_ok-after.ensures.one)

pub returns-in-None-clause-any : goal.returns-in-None-clause-any
returns-in-None-clause-any c =
    stuck_any c.args.id.now c.args.text.now c.params.rest.now c.args.fields.now c.params.fields c.params.invariant
    c.in-Some.param.now c.set_param.new.fields c.in-Some.ensures (rw c.in-None.is at c.in_ok-after.ensures.any)
