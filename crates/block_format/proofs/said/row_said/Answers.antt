use Rattle.std.proofs.Common.{◌≡◌, ◌∙◌, ℤ, List, FitsSigned, Option, ap, length, refl, rules, sym, of_z, to_z, w64, ℕ}
use Rattle.std.specs.Prelude.{unwrap_or}
use Rattle.std.proofs.lemmas.Bool.{both_ways}
use Rattle.std.proofs.lemmas.Int.{to_z-of_z}
use Rattle.log_model.specs.Field.{Field}
use Rattle.log_model.specs.History.{Numbered}
use Rattle.log_model.specs.Row.{Row}
use Rattle.vl_row.specs.Faults.{labels_of, row_fault, stored}
use Rattle.vl_row.specs.declared.row.RowFault.{RowFault}
use Rattle.vl_row.specs.declared.row.RowFault.TheVariants.{Memory}
use Rattle.block_model.specs.Columns.{names_in, row_of}
use Rattle.block_model.proofs.FaultLaws.{no-fault}
use Rattle.block_model.proofs.RowLaws.{row-labels-again, stored-again}
use Rattle.block_format.proofs.SaidLaws.{labels-among, late, stored-all}
use Rattle.block_format.proofs.TestLaws.{row-refused}
use Rattle.block_format.proofs.said.row_said.Goals as goal
use Rattle.block_format.proofs.said.row_said.Goals.{else-len-count-via-then-len-count+else-has_labels}
use Rattle.block_format.proofs.said.row_said.Goals.{else-len-count-via-else-len-count}

pub returns-then-has_labels : goal.returns-then-has_labels
returns-then-has_labels c =
    let made = c.in-Ok.ensures.ok.1 in
    let batch : ℕ = c.args.key.batch in
    let place : ℕ = c.args.key.place in
    let small : FitsSigned w64 c.args.key.time = search rules in
    let time : to_z w64 (of_z w64 c.args.key.time) ≡ c.args.key.time = to_z-of_z w64 c.args.key.time small in
    let labels : labels_of c.args.names.now c.args.fields ≡ c.args.labels.now =
    sym (ap (λ (r : Row). r.labels) made) ∙ sym c.stream.ensures ∙ c.has_labels.ensures.0 c.if-has_labels.true in
    let count : length (stored c.args.fields) ≡ length c.args.fields =
    sym (ap (λ (r : Row). length r.fields) made) ∙ ap length (sym c.fields.ensures.value) ∙ sym c.len.ensures
    ∙ c.if-len-count.true ∙ c.len-count.ensures in
    let row : Row = (row_of c.args.labels.now c.args.key c.args.fields).row in
    let same : c.in-Ok.row ≡ row = made ∙ rw (time, labels, stored-all c.args.fields count) refl in
    ap (λ (r : Row). let n : Numbered = record { batch = batch; place = place; row = r } in n) same

pub returns-in-Ok : goal.returns-in-Ok
returns-in-Ok c =
    let made = c.in-Ok.ensures.ok.1 in
    let row : Row = (row_of c.args.labels.now c.args.key c.args.fields).row in
    let fields : List Field = c.args.fields in
    elim c.else-len-count.branch [
      | else-len-count-via-then-len-count+else-has_labels w ↦ row-refused row (λ r. both_ways w.has_labels.result
          w.if-has_labels.false (w.has_labels.ensures.1 (w.stream.ensures ∙ ap (λ (x : Row). x.labels) made
          ∙ labels-among c.args.names.now (names_in c.args.labels.now) fields c.requires.names ∙ row-labels-again row r)))
      | else-len-count-via-else-len-count w ↦ row-refused row (λ r. w.if-len-count.false (c.len.ensures
          ∙ ap length c.fields.ensures.value ∙ ap (λ (x : Row). length x.fields) made ∙ ap length (stored-again row r)
          ∙ sym c.len-count.ensures))
    ]

pub returns : goal.returns
returns c =
    let fields : List Field = c.args.fields in
    let row : Row = (row_of c.args.labels.now c.args.key c.args.fields).row in
    let small : FitsSigned w64 c.args.key.time = search rules in
    let time : to_z w64 (of_z w64 c.args.key.time) ≡ c.args.key.time = to_z-of_z w64 c.args.key.time small in
    row-refused row (λ r. c.in_default.not-Memory (c.in-Err.ensures.err.0 ∙ ap (λ (o : Option RowFault). unwrap_or o
    Memory) (ap (λ (t : ℤ). row_fault t fields) time ∙ no-fault c.args.key.time row (late c.args.key.time
    c.requires.time) r)))
