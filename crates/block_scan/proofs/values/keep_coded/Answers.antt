use Rattle.std.proofs.Common.{◌∙◌, ap, false, get_or, ℕ}
use Rattle.lq_filter.specs.Value.{field_holds}
use Rattle.block_scan.proofs.Staying.{kept-coded}
use Rattle.block_scan.specs.Marks.{kept}
use Rattle.block_scan.proofs.values.keep_coded.Goals as goal

pub returns : goal.returns
returns c =
    c.look_up.ensures
    ∙ ap (λ answers. kept (λ (code : ℕ). get_or answers code false) c.args.codes.now c.args.marks.now)
    (c.as_slice.ensures.value ∙ c.in_ok-answers.ensures)
    ∙ kept-coded (field_holds c.args.field.now) c.args.texts.now c.args.codes.now c.args.marks.now c.requires.codes
