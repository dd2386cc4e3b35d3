use Rattle.std.proofs.lemmas.Result.{IfOk-weaker}
use Rattle.syslog_in.proofs.Elements.{data_any}
use Rattle.syslog_in.proofs.data.set_parameters.Goals as goal

pub returns-clause-any : goal.returns-clause-any
returns-clause-any c =
    IfOk-weaker c.set_elements.result _ _
    (λ found h. data_any c.args.text.now c.args.fields.now c.in-Some.inside.now _ _
    c.in-Some.ensures h) c.set_elements.ensures.any
