use Rattle.std.proofs.Common.{◌≡◌, ◌<◌, ◌∙◌, length, [], ap, arith, false, get_or, sym}
use Rattle.std.proofs.lemmas.Option.{get_or_from_slice_get}
use Rattle.lq_filter.specs.Value.{field_holds}
use Rattle.block_scan.proofs.Staying.{asked, none_walked, passed, walked_all}
use Rattle.block_scan.proofs.values.keep_texts.Goals.{then-marks-i+in_ok-marks, else-marks-i}
use Rattle.block_scan.proofs.values.keep_texts.Goals as goal

pub loop-i-init : goal.loop-i-init
loop-i-init c = none_walked (field_holds c.args.field.now) c.args.texts.now c.args.marks.now

pub loop-i-preserved : goal.loop-i-preserved
loop-i-preserved c =
    let test = field_holds c.args.field.now in
    let texts = c.args.texts.now in
    let i = c.loop-i.i in
    let within : i < length texts = omega (arith, c.loop-i-test.true, c.requires) in
    elim c.if-marks-i.branch [
      | then-marks-i+in_ok-marks w ↦
          let text = w.get.result.now in
          let there : get_or texts i text ≡ text = get_or_from_slice_get texts i text text w.get.ensures.value in
          w.marks-is
          ∙ asked test i texts c.args.marks.now c.loop-i.marks c.loop-i.invariant within c.requires false _ text
          w.if-marks-i.true (w.in_ok-marks.ensures ∙ sym (ap test there))
      | else-marks-i w ↦
          w.marks-is
          ∙ passed test i texts c.args.marks.now c.loop-i.marks c.loop-i.invariant within c.requires false []
          w.if-marks-i.false
    ]

pub returns : goal.returns
returns c =
    c.loop-i.invariant
    ∙ walked_all (field_holds c.args.field.now) c.loop-i.i c.args.texts.now c.args.marks.now (omega arith) c.requires
