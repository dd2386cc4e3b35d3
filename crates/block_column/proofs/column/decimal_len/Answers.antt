use Rattle.std.proofs.Common.{◌≡◌, ◌∙◌, ap, length, subst, w64}
use Rattle.std.specs.Prelude.{IsUtf8}
use Rattle.std.specs.Fmt.{signed_decimal}
use Rattle.std.proofs.lemmas.Int.{to_z-of_z}
use Rattle.block_column.proofs.column.decimal_len.Goals as goal

pub returns-clause-len : goal.returns-clause-len
returns-clause-len c =
    let text : c.format.result.now ≡ signed_decimal c.args.integer = c.format.ensures.text
    ∙ ap signed_decimal (to_z-of_z w64 c.args.integer c.ranges.integer) in
    c.len_of_text.ensures.len ∙ ap length text

pub returns-clause-text : goal.returns-clause-text
returns-clause-text c =
    let text : c.format.result.now ≡ signed_decimal c.args.integer = c.format.ensures.text
    ∙ ap signed_decimal (to_z-of_z w64 c.args.integer c.ranges.integer) in
    subst IsUtf8 text c.len_of_text.ensures.text
