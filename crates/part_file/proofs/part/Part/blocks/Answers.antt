use Rattle.std.proofs.Common.{◌∙◌, List, ap, subst, sym}
use Rattle.log_model.specs.History.{Numbered}
use Rattle.part_model.specs.Filling.{AreFilled, rows_in_blocks}
use Rattle.part_file.proofs.part.Part.blocks.Goals as goal

pub returns-clause-rows : goal.returns-clause-rows
returns-clause-rows c = ap rows_in_blocks c.as_slice.ensures.value ∙ c.self.view_is

pub returns-clause-filled : goal.returns-clause-filled
returns-clause-filled c =
    subst (λ (b : List (List Numbered)). AreFilled b c.args.self.now) (sym c.as_slice.ensures.value) (subst (AreFilled
    c.self.inside.blocks.items) c.self.view_is c.self.invariant.filled)
