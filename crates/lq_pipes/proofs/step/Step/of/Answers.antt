use Rattle.lq_pipes.proofs.Plain.{is_plain_pipe, plain_counted, plain_readable}
use Rattle.lq_pipes.proofs.step.Step.of.Goals as goal

pub returns-in_default-clause-planned : goal.returns-in_default-clause-planned
returns-in_default-clause-planned c = is_plain_pipe c.args.pipe.now c.in_default.not-Stats c.in_default.not-Keep

pub returns-in_default-clause-counted : goal.returns-in_default-clause-counted
returns-in_default-clause-counted c =
    λ _. plain_counted c.args.pipe.now c.args.nth.now
    (is_plain_pipe c.args.pipe.now c.in_default.not-Stats c.in_default.not-Keep)

pub returns-in_default-clause-readable : goal.returns-in_default-clause-readable
returns-in_default-clause-readable c =
    plain_readable c.args.pipe.now (is_plain_pipe c.args.pipe.now c.in_default.not-Stats c.in_default.not-Keep)
