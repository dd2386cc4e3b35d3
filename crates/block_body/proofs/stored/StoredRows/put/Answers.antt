use Rattle.std.proofs.Common.{◌≡◌, ◌++◌, ◌∙◌, List, ap, subst, sym}
use Rattle.std.specs.Prelude.{OnOk}
use Rattle.std.specs.Arc.{arc_value}
use Rattle.block_format.specs.Spelling.{block_bytes}
use Rattle.block_format.specs.Reading.{block_writing}
use Rattle.block_format.proofs.ReadAgain.{is-written}
use Rattle.block_format.proofs.TestLaws.{is-block}
use Rattle.log_model.specs.History.{Numbered}
use Rattle.std.proofs.Common.{Some}
use Rattle.block_body.specs.Held.{IsStored, rows_held}
use Rattle.block_body.specs.declared.body.Body.{Body}
use Rattle.block_body.proofs.stored.StoredRows.put.Goals as goal

pub put-requires : goal.put-requires
put-requires c =
    subst (λ (b : Body). IsStored (rows_held c.self.inside.head b c.self.inside.batches) c.self.inside.head b
    c.self.inside.batches) (sym c.deref.ensures) c.self.invariant

pub returns-clause-bytes : goal.returns-clause-bytes
returns-clause-bytes c =
    let same : rows_held c.self.inside.head c.deref.result.now c.self.inside.batches ≡ c.args.self.now =
    ap (λ (b : Body). rows_held c.self.inside.head b c.self.inside.batches) c.deref.ensures ∙ c.self.view_is in
    subst (λ (rows : List Numbered). OnOk c.put.result (c.put.new.out.items ≡ c.args.out.now.items
    ++ block_bytes rows)) same c.put.ensures

pub returns-clause-written : goal.returns-clause-written
returns-clause-written c =
    let held = c.self.invariant.held in
    let rows : List Numbered = rows_held c.self.inside.head (arc_value c.self.inside.body) c.self.inside.batches in
    subst (λ (r : List Numbered). block_writing r ≡ Some (block_bytes r)) c.self.view_is (is-written rows (is-block rows
    held.block held.each held.texts))
