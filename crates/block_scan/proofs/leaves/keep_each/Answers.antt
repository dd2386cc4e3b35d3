use Rattle.std.proofs.Common.{◌≡◌, ◌<◌, ◌∙◌, ap, arith, false, get_or, length, sym}
use Rattle.std.proofs.lemmas.Option.{get_or_from_slice_get}
use Rattle.column_block.specs.InColumns.{no_row}
use Rattle.log_model.specs.History.{Numbered}
use Rattle.log_model.specs.Row.{value_of}
use Rattle.lq_filter.specs.Value.{field_holds, field_name}
use Rattle.block_scan.proofs.Staying.{asked, none_walked, passed, walked_all}
use Rattle.block_scan.proofs.leaves.keep_each.Goals.{then-marks-i+in_ok-marks, else-marks-i}
use Rattle.block_scan.proofs.leaves.keep_each.Goals as goal

pub loop-i-init : goal.loop-i-init
loop-i-init c =
    none_walked (λ (numbered : Numbered). field_holds c.args.field.now (value_of numbered.row (field_name c.args.field.now)))
    c.args.rows.now c.args.marks.now

pub loop-i-preserved : goal.loop-i-preserved
loop-i-preserved c =
    let test = λ (numbered : Numbered).
    field_holds c.args.field.now (value_of numbered.row (field_name c.args.field.now)) in
    let rows = c.args.rows.now in
    let i = c.loop-i.i in
    let within : i < length rows = omega (arith, c.loop-i-test.true, c.requires) in
    elim c.if-marks-i.branch [
      | then-marks-i+in_ok-marks w ↦
          let row = w.lent.result.numbered in
          let there : get_or rows i row ≡ row = get_or_from_slice_get rows i row row w.lent.ensures.row in
          w.marks-is
          ∙ asked test i rows c.args.marks.now c.loop-i.marks c.loop-i.invariant within c.requires false _ row
          w.if-marks-i.true (w.in_ok-marks.ensures ∙ sym (ap test there))
      | else-marks-i w ↦
          w.marks-is
          ∙ passed test i rows c.args.marks.now c.loop-i.marks c.loop-i.invariant within c.requires false no_row
          w.if-marks-i.false
    ]

pub returns : goal.returns
returns c =
    c.loop-i.invariant
    ∙ walked_all (λ (numbered : Numbered). field_holds c.args.field.now (value_of numbered.row (field_name c.args.field.now)))
    c.loop-i.i c.args.rows.now c.args.marks.now (omega arith) c.requires
