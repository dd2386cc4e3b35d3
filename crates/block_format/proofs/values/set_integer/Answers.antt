use Rattle.std.proofs.Common.{◌≡◌, ◌∙◌, ap, w64}
use Rattle.std.specs.Fmt.{signed_decimal}
use Rattle.std.proofs.lemmas.Int.{to_z-of_z}
use Rattle.block_format.proofs.values.set_integer.Goals as goal

pub returns : goal.returns
returns c =
    let text : c.format.result.now ≡ signed_decimal c.args.integer = c.format.ensures.text
    ∙ ap signed_decimal (to_z-of_z w64 c.args.integer c.ranges.integer) in
    rw (← text) c.set.ensures.ok
