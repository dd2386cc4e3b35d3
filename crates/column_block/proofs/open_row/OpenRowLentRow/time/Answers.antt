use Rattle.std.proofs.Common.{◌≡◌, ◌∙◌, FitsSigned, List, ap, pos, rules, w64}
use Rattle.std.proofs.lemmas.Int.{to_z-of_z}
use Rattle.log_model.specs.History.{Numbered}
use Rattle.block_model.specs.Keys.{key_of}
use Rattle.block_model.specs.declared.keys.Key.{Key}
use Rattle.column_block.specs.InColumns.{InColumns, row_at}
use Rattle.column_block.proofs.OpenLaws.{key-is, row-there}
use Rattle.column_block.proofs.open_row.OpenRowLentRow.time.Goals as goal

pub returns : goal.returns
returns c =
    let rows : List Numbered = c.self.inside.stored.now in
    let n : Numbered = (row_at rows c.self.inside.place).numbered in
    let key : c.key-key.result ≡ key_of n = key-is rows c.self.inside.place c.key-key.result n (row-there rows
    c.self.inside.place c.self.invariant) c.key-key.ensures in
    let small : FitsSigned w64 c.key-key.result.time = search rules in
    to_z-of_z w64 c.key-key.result.time small ∙ ap (λ (k : Key). k.time) key
    ∙ ap (λ (r : InColumns). pos r.numbered.row.moment) c.self.view_is
