use Rattle.std.proofs.Common.{◌≡◌, ◌∙◌, List, [], ap, arith, get_or, length, map}
use Rattle.std.proofs.lemmas.List.{length-map}
use Rattle.log_model.specs.Field.{field_value}
use Rattle.log_model.specs.History.{Numbered}
use Rattle.block_model.specs.Columns.{names_of, values_of}
use Rattle.block_body.specs.declared.body.Body.{Body}
use Rattle.block_body.proofs.ColumnLaws.{values-at}
use Rattle.block_body.proofs.stored.StoredRows.value.Goals as goal

pub value-requires-clause-row : goal.value-requires-clause-row
value-requires-clause-row c =
    let columns : c.deref.result.now.columns ≡ map (values_of c.args.self.now) (names_of c.args.self.now) =
    ap (λ (b : Body). b.columns) c.deref.ensures ∙ c.self.invariant.held.columns_are
    ∙ ap (λ (rows : List Numbered). map (values_of rows) (names_of rows)) c.self.view_is in
    omega (
      arith,
      ap length (values-at c.args.self.now c.deref.result.now.columns c.args.c columns c.requires.column),
      length-map c.args.self.now (λ (n : Numbered). field_value n.row.fields
          (get_or (names_of c.args.self.now) c.args.c [])),
      c.requires.row,
    )
