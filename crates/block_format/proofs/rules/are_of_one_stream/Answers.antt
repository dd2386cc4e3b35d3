use Rattle.std.proofs.Common.{◌∙◌, ap}
use Rattle.log_model.specs.History.{Numbered}
use Rattle.block_format.proofs.StreamLaws.{one-stream}
use Rattle.block_format.proofs.rules.are_of_one_stream.Goals as goal

pub returns-in-len1-up : goal.returns-in-len1-up
returns-in-len1-up c =
    one-stream c.are_of.result c.args.rows.now c.first-item.result c.stream.result.now c.in-len1-up.len_at_least
    c.first-item.is (c.stream.ensures ∙ ap (λ (n : Numbered). n.row.labels) c.first.view_is) c.are_of.ensures
