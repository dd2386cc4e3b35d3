use Rattle.std.proofs.Common.{◌≡◌, ◌∙◌, ap, length, map, replicate, subst, sym, ◌&&◌, ℤ, ℕ, Bool, List}
use Rattle.std.specs.Prelude.{OnOk}
use Rattle.std.specs.Fmt.{signed_decimal}
use Rattle.block_column.specs.Lent.{values_lent}
use Rattle.block_model.specs.Distinct.{text_at}
use Rattle.lq_filter.specs.Value.{field_holds}
use Rattle.block_scan.proofs.Staying.{kept-map, kept-replicate}
use Rattle.block_scan.specs.Marks.{kept}
use Rattle.block_scan.proofs.values.keep_values.Goals as goal

pub returns-in-Constant : goal.returns-in-Constant
returns-in-Constant c =
    let test = field_holds c.args.field.now in
    let marks = c.args.marks.now in
    let text = c.in-Constant.text.now in
    let lent : values_lent c.args.values ≡ replicate c.in-Constant.field-1 text = ap values_lent c.in-Constant.is in
    let same : map (λ (mark : Bool). mark && test text) marks ≡ kept test (values_lent c.args.values) marks =
    kept-replicate test c.in-Constant.field-1 text marks (c.requires.rows ∙ ap length lent)
    ∙ ap (λ l. kept test l marks) (sym lent) in
    subst (λ (l : List Bool). OnOk c.keep_constant.result (c.keep_constant.new.marks ≡ l)) same c.keep_constant.ensures

pub returns-in-Integers : goal.returns-in-Integers
returns-in-Integers c =
    let test = field_holds c.args.field.now in
    let marks = c.args.marks.now in
    let ints = c.in-Integers.ints.now in
    let lent : values_lent c.args.values ≡ map signed_decimal ints = ap values_lent c.in-Integers.is in
    let same : kept (λ (int : ℤ). test (signed_decimal int)) ints marks ≡ kept test (values_lent c.args.values) marks =
    sym (kept-map test signed_decimal ints marks) ∙ ap (λ l. kept test l marks) (sym lent) in
    subst (λ (l : List Bool). OnOk c.keep_integers.result (c.keep_integers.new.marks ≡ l)) same c.keep_integers.ensures

pub returns-in-Dictionary : goal.returns-in-Dictionary
returns-in-Dictionary c =
    let test = field_holds c.args.field.now in
    let marks = c.args.marks.now in
    let texts = c.in-Dictionary.texts.now in
    let codes = c.in-Dictionary.codes.now in
    let lent : values_lent c.args.values ≡ map (text_at texts) codes = ap values_lent c.in-Dictionary.is in
    let same : kept (λ (code : ℕ). test (text_at texts code)) codes marks ≡ kept test (values_lent c.args.values) marks =
    sym (kept-map test (text_at texts) codes marks) ∙ ap (λ l. kept test l marks) (sym lent) in
    subst (λ (l : List Bool). OnOk c.keep_coded.result (c.keep_coded.new.marks ≡ l)) same c.keep_coded.ensures
