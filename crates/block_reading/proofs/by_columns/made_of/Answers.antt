use Rattle.std.proofs.Common.{◌∙◌, ℕ, ap, length}
use Rattle.block_reading.specs.ByColumns.{bytes_from, head_by_keys}
use Rattle.block_reading.proofs.ByColumnsLaws.{all-lengths, heads-in-order, held-by-columns}
use Rattle.block_reading.proofs.by_columns.made_of.Goals as goal

pub head_of-requires-clause-order : goal.head_of-requires-clause-order
head_of-requires-clause-order c =
    heads-in-order c.args.columns.items c.in_ok-heads.heads.items c.requires.good.rising c.in_ok-heads.ensures.heads

pub held-requires : goal.held-requires
held-requires c =
    let good = c.requires.good in
    (held-by-columns c.args.seen.stream c.args.columns.items c.args.keys.now c.in_ok-heads.values.items c.in_ok-head.head
    good.few good.ordered good.rising good.named (all-lengths (length c.args.keys.now) c.args.columns.items c.requires.rows)
    good.filled good.light good.listed good.labelled
    (c.in_ok-head.ensures ∙ ap (λ (n : ℕ). head_by_keys c.args.seen.stream c.args.keys.now n c.in_ok-heads.heads.items)
    good.sum ∙ ap (head_by_keys c.args.seen.stream c.args.keys.now (bytes_from c.args.columns.items 0 (length
    c.args.keys.now))) c.in_ok-heads.ensures.heads) c.in_ok-heads.ensures.values).1

pub returns : goal.returns
returns c =
    let good = c.requires.good in
    c.in_ok-made.ensures
    ∙ (held-by-columns c.args.seen.stream c.args.columns.items c.args.keys.now c.in_ok-heads.values.items c.in_ok-head.head
    good.few good.ordered good.rising good.named (all-lengths (length c.args.keys.now) c.args.columns.items c.requires.rows)
    good.filled good.light good.listed good.labelled
    (c.in_ok-head.ensures ∙ ap (λ (n : ℕ). head_by_keys c.args.seen.stream c.args.keys.now n c.in_ok-heads.heads.items)
    good.sum ∙ ap (head_by_keys c.args.seen.stream c.args.keys.now (bytes_from c.args.columns.items 0 (length
    c.args.keys.now))) c.in_ok-heads.ensures.heads) c.in_ok-heads.ensures.values).0
