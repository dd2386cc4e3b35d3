use Rattle.std.proofs.Common.{◌≡◌, ◌<◌, ◌∙◌, length, ap, arith, false, get_or, pos, rules, sym, w64, FitsSigned, ℤ}
use Rattle.std.proofs.lemmas.Int.{to_z-of_z}
use Rattle.std.proofs.lemmas.Option.{get_or_from_slice_get}
use Rattle.std.specs.Fmt.{signed_decimal}
use Rattle.lq_filter.specs.Value.{field_holds}
use Rattle.block_scan.proofs.Staying.{asked, none_walked, passed, walked_all}
use Rattle.block_scan.proofs.values.keep_decimals.Goals.{then-marks-i+in_ok-marks, else-marks-i}
use Rattle.block_scan.proofs.values.keep_decimals.Goals as goal

pub loop-i-init : goal.loop-i-init
loop-i-init c =
    none_walked (λ (int : ℤ). field_holds c.args.field.now (signed_decimal int)) c.args.ints.now c.args.marks.now

pub loop-i-preserved : goal.loop-i-preserved
loop-i-preserved c =
    let test = λ (int : ℤ). field_holds c.args.field.now (signed_decimal int) in
    let ints = c.args.ints.now in
    let i = c.loop-i.i in
    let within : i < length ints = omega (arith, c.loop-i-test.true, c.requires) in
    elim c.if-marks-i.branch [
      | then-marks-i+in_ok-marks w ↦
          let int = w.get.result in
          let fits : FitsSigned w64 int = search rules in
          let there : get_or ints i int ≡ int = get_or_from_slice_get ints i int int w.get.ensures in
          w.marks-is
          ∙ asked test i ints c.args.marks.now c.loop-i.marks c.loop-i.invariant within c.requires false _ int
          w.if-marks-i.true (simp to_z-of_z at w.in_ok-marks.ensures ∙ sym (ap test there))
      | else-marks-i w ↦
          w.marks-is
          ∙ passed test i ints c.args.marks.now c.loop-i.marks c.loop-i.invariant within c.requires false (pos 0)
          w.if-marks-i.false
    ]

pub returns : goal.returns
returns c =
    c.loop-i.invariant
    ∙ walked_all (λ (int : ℤ). field_holds c.args.field.now (signed_decimal int)) c.loop-i.i c.args.ints.now
    c.args.marks.now (omega arith) c.requires
