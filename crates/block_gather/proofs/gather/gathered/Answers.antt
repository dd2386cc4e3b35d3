use Rattle.std.proofs.Common.{◌∙◌, List}
use Rattle.log_model.specs.History.{Numbered}
use Rattle.block_body.proofs.HeldLaws.{held}
use Rattle.block_gather.specs.Picked.{rows_picked}
use Rattle.block_gather.proofs.gather.gathered.Goals as goal

pub held-requires : goal.held-requires
held-requires c =
    (held (rows_picked c.args.picks.now) c.in_ok-head.head c.as_slice-4.result.now c.in_ok-columns.columns.values.items
    c.requires c.in_ok-keys.ensures.rules c.in_ok-keys.ensures.texts c.in_ok-head.ensures (c.as_slice-4.ensures.value
    ∙ c.in_ok-keys.ensures.keys) c.in_ok-columns.ensures.values).1

pub returns : goal.returns
returns c =
    c.in_ok-stored.ensures
    ∙ (held (rows_picked c.args.picks.now) c.in_ok-head.head c.as_slice-4.result.now c.in_ok-columns.columns.values.items
    c.requires c.in_ok-keys.ensures.rules c.in_ok-keys.ensures.texts c.in_ok-head.ensures (c.as_slice-4.ensures.value
    ∙ c.in_ok-keys.ensures.keys) c.in_ok-columns.ensures.values).0
