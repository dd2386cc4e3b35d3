use Rattle.std.proofs.Common.{length, ap, sym, ◌∙◌}
use Rattle.lq_plain.proofs.Naming.{no_bytes}
use Rattle.word_tokens.proofs.Standing.{occurs-empty}
use Rattle.lq_plain.proofs.value.has_phrase.Goals as goal

pub returns-then-is_empty : goal.returns-then-is_empty
returns-then-is_empty c =
    let empty = no_bytes c.args.phrase.now (sym c.is_empty.ensures ∙ c.if-is_empty.true) in
    c.if-is_empty.true ∙ occurs-empty c.args.value.now c.args.phrase.now (ap length empty)
