use Rattle.std.proofs.Common.{FitsSigned, rules, ℤ}
use Rattle.std.proofs.lemmas.Int.{to_z-of_z}
use Rattle.std.specs.Fmt.{signed_decimal}
use Rattle.std.specs.Int.{w128}
use Rattle.lq_filter.specs.Value.{field_holds}
use Rattle.block_scan.proofs.Spans.{number_asked}
use Rattle.block_scan.proofs.values.keep_integers.Goals as goal

pub returns-in-Some : goal.returns-in-Some
returns-in-Some c =
    let test = λ (int : ℤ). field_holds c.args.field.now (signed_decimal int) in
    let low : FitsSigned w128 c.in-Some.low = search rules in
    let high : FitsSigned w128 c.in-Some.high = search rules in
    c.keep_ints.ensures test
    (λ int fits. simp to_z-of_z (number_asked c.in-Some.low c.in-Some.high int (test int) fits
    (c.in-Some.ensures (signed_decimal int))))
