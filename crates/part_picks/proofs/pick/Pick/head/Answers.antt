use Rattle.std.proofs.Common.{ℕ, List, map, subst}
use Rattle.log_model.specs.History.{Numbered}
use Rattle.block_body.specs.Outline.{NamedFilter}
use Rattle.part_picks.specs.Names.{AreListed, AreNamed}
use Rattle.part_picks.proofs.NameLaws.{block-named}
use Rattle.part_picks.proofs.RangeLaws.{range-all}
use Rattle.part_picks.proofs.pick.Pick.head.Goals as goal

pub returns : goal.returns
returns c =
    let names = map (λ (column : NamedFilter). column.0) c.head.result.now.columns in
    subst (AreNamed names) c.self.view_is (range-all (λ (n : Numbered). AreListed n.row.fields names)
    c.self.inside.block.now c.self.inside.from c.self.inside.to (block-named c.self.inside.block.now c.head.result.now
    c.head.ensures.outline))
