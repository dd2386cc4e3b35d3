use Rattle.std.proofs.Common.{◌≡◌, ◌∙◌, List, ap, map}
use Rattle.log_model.specs.History.{Numbered}
use Rattle.block_model.specs.Columns.{names_of, values_of}
use Rattle.block_body.specs.declared.body.Body.{Body}
use Rattle.block_body.proofs.ColumnLaws.{values-at}
use Rattle.block_body.proofs.stored.StoredRows.values.Goals as goal

pub returns-clause-values : goal.returns-clause-values
returns-clause-values c =
    let columns : c.deref.result.now.columns ≡ map (values_of c.args.self.now) (names_of c.args.self.now) =
    ap (λ (b : Body). b.columns) c.deref.ensures ∙ c.self.invariant.held.columns_are
    ∙ ap (λ (rows : List Numbered). map (values_of rows) (names_of rows)) c.self.view_is in
    c.lent.ensures.values ∙ values-at c.args.self.now c.deref.result.now.columns c.args.c columns c.requires
