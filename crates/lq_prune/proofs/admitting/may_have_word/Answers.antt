use Rattle.std.proofs.Common.{◌∙◌, ap, sym}
use Rattle.token_bloom.specs.Filter.{may_have}
use Rattle.block_body.specs.Outline.{NamedFilter}
use Rattle.lq_prune.proofs.Lists.{column-at}
use Rattle.lq_prune.proofs.admitting.may_have_word.Goals as goal

pub returns-then-eq : goal.returns-then-eq
returns-then-eq c d =
    let columns = c.args.head.now.columns in
    let name = column-at (λ (column : NamedFilter). column.0) columns c.args.c c.name.result.now d c.name.ensures in
    let bloom = column-at (λ (column : NamedFilter). column.1) columns c.args.c c.bloom.result.now d c.bloom.ensures in
    rw (name, bloom, sym c.eq.ensures ∙ c.if-eq.true)
    (c.may_have.ensures ∙ ap (may_have c.bloom.result.now) c.as_bytes.ensures.value)

pub returns-else-eq : goal.returns-else-eq
returns-else-eq c d =
    let columns = c.args.head.now.columns in
    let name = column-at (λ (column : NamedFilter). column.0) columns c.args.c c.name.result.now d c.name.ensures in
    rw (name, sym c.eq.ensures ∙ c.if-eq.false) c.if-eq.false
