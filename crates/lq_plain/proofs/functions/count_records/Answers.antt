use Rattle.std.proofs.Common.{◌∙◌}
use Rattle.lq_plain.proofs.Outcomes.{counted_some}
use Rattle.lq_plain.proofs.functions.count_records.Goals as goal

pub returns-in-len1-up : goal.returns-in-len1-up
returns-in-len1-up c =
    c.count_with_some.ensures ∙ counted_some c.args.names.now c.args.records.now c.in-len1-up.len_at_least
