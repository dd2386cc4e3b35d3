use Rattle.std.proofs.Common.{◌∙◌, ℤ, List, FitsSigned, Some, ap, rules, slice_get, sym, w64}
use Rattle.std.proofs.lemmas.Int.{to_z-of_z}
use Rattle.log_model.specs.History.{Numbered}
use Rattle.block_model.specs.Keys.{keys_of}
use Rattle.block_model.specs.declared.keys.Key.{Key}
use Rattle.column_block.proofs.OpenLaws.{key-at}
use Rattle.column_block.proofs.open.Open.key.Goals as goal

pub returns : goal.returns
returns c =
    let key : Key = c.key-key.result in
    let small : FitsSigned w64 c.key-key.result.time = search rules in
    key-at c.args.self.now c.args.i c.key-key.result c.requires (ap (λ (rows : List Numbered). slice_get (keys_of rows)
    c.args.i) (sym c.self.view_is) ∙ c.key-key.ensures)
    ∙ ap (λ (t : ℤ). Some (t, key.batch, key.place)) (sym (to_z-of_z w64 c.key-key.result.time small))
