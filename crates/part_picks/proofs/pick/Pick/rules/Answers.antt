use Rattle.std.proofs.Common.{◌∙◌, List, ap, subst, sym}
use Rattle.log_model.specs.History.{Numbered}
use Rattle.block_format.specs.Rows.{are_ordered, labels_of}
use Rattle.part_picks.specs.Range.{AreOfStream}
use Rattle.part_picks.proofs.RangeLaws.{range-ordered, range-stream}
use Rattle.part_picks.proofs.pick.Pick.rules.Goals as goal

pub returns-clause-ordered : goal.returns-clause-ordered
returns-clause-ordered c =
    ap are_ordered (sym c.self.view_is) ∙ range-ordered c.self.inside.block.now c.self.inside.from c.self.inside.to
    c.self.invariant

pub returns-clause-stream : goal.returns-clause-stream
returns-clause-stream c =
    subst (λ (rows : List Numbered). AreOfStream (labels_of rows) rows) c.self.view_is (range-stream c.self.inside.block.now
    c.self.inside.from c.self.inside.to c.self.invariant)
