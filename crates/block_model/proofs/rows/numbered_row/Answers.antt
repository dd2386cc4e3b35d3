use Rattle.std.proofs.Common.{◌≡◌, ◌∙◌, ℤ, FitsSigned, Option, ap, refl, rules, of_z, to_z, w64}
use Rattle.std.specs.Prelude.{unwrap_or}
use Rattle.std.proofs.lemmas.Int.{to_z-of_z}
use Rattle.log_model.specs.Row.{Row}
use Rattle.vl_row.specs.Faults.{labels_of, row_fault}
use Rattle.vl_row.specs.declared.row.RowFault.{RowFault}
use Rattle.vl_row.specs.declared.row.RowFault.TheVariants.{Memory}
use Rattle.block_model.specs.Columns.{row_of}
use Rattle.block_model.proofs.FaultLaws.{no-fault}
use Rattle.block_model.proofs.RowLaws.{row-labels-again, stored-again}
use Rattle.block_model.proofs.rows.numbered_row.Goals as goal

pub returns-in-Ok : goal.returns-in-Ok
returns-in-Ok c =
    let row : Row = (row_of c.args.stream.now c.args.key c.args.fields).row in
    let names = c.as_slice.ensures.value ∙ c.in_ok-names.ensures in
    let labels = ap (λ l. labels_of l c.args.fields) names ∙ row-labels-again row c.requires.row in
    let small : FitsSigned w64 c.args.key.time = search rules in
    let time : to_z w64 (of_z w64 c.args.key.time) ≡ c.args.key.time = to_z-of_z w64 c.args.key.time small in
    rw (c.in-Ok.ensures.ok.1, labels, stored-again row c.requires.row, time) refl

pub unreachable-requires : goal.unreachable-requires
unreachable-requires c =
    let row : Row = (row_of c.args.stream.now c.args.key c.args.fields).row in
    let small : FitsSigned w64 c.args.key.time = search rules in
    let time : to_z w64 (of_z w64 c.args.key.time) ≡ c.args.key.time = to_z-of_z w64 c.args.key.time small in
    let none = ap (λ (t : ℤ). row_fault t c.args.fields) time ∙ no-fault c.args.key.time row c.requires.time
    c.requires.row in
    c.in_default.not-Memory (c.in-Err.ensures.err.0 ∙ ap (λ (o : Option RowFault). unwrap_or o Memory) none)
