use Rattle.std.proofs.Common.{◌≡◌, ◌++◌, ◌∙◌, ℕ, List, [], ap, map, subst}
use Rattle.std.specs.Prelude.{OnOk, replicate}
use Rattle.lent_row.specs.Cells.{value_text}
use Rattle.block_gather.proofs.NameLaws.{none-picked}
use Rattle.block_gather.proofs.values.put_none.Goals as goal

pub returns : goal.returns
returns c =
    subst (λ (l : List (List ℕ)). OnOk c.put_empty.result (map value_text c.put_empty.new.out.items
    ≡ map value_text c.args.out.now.items ++ l)) (ap (λ (n : ℕ). replicate n []) c.len.ensures.len
    ∙ none-picked c.args.pick.now.block c.args.pick.now.from c.args.pick.now.to c.args._name.now c.len.ensures.some
    c.len.ensures.within c.requires) c.put_empty.ensures
