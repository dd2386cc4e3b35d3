use Rattle.std.proofs.Common.{◌∙◌, ap, map}
use Rattle.block_model.specs.Columns.{values_of}
use Rattle.block_body.proofs.HeldLaws.{held}
use Rattle.block_body.proofs.stored.StoredRows.of_lent.Goals as goal

pub with-requires : goal.with-requires
with-requires c =
    let names = c.as_slice.ensures ∙ c.in_ok-learn.ensures.names in
    let columns = c.in_ok-heads.ensures.values ∙ ap (map (values_of c.args.rows.now)) names in
    (held c.args.rows.now c.in_ok-head.head c.as_slice-2.result.now c.in_ok-heads.columns c.requires
    c.in_ok-keys.ensures.rules c.in_ok-learn.ensures.texts c.in_ok-head.ensures (c.as_slice-2.ensures.value
    ∙ c.in_ok-keys.ensures.keys) columns).1

pub returns-clause-rows : goal.returns-clause-rows
returns-clause-rows c =
    let names = c.as_slice.ensures ∙ c.in_ok-learn.ensures.names in
    let columns = c.in_ok-heads.ensures.values ∙ ap (map (values_of c.args.rows.now)) names in
    c.in_ok-stored.ensures
    ∙ (held c.args.rows.now c.in_ok-head.head c.as_slice-2.result.now c.in_ok-heads.columns c.requires
    c.in_ok-keys.ensures.rules c.in_ok-learn.ensures.texts c.in_ok-head.ensures (c.as_slice-2.ensures.value
    ∙ c.in_ok-keys.ensures.keys) columns).0
