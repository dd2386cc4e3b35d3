use Rattle.std.proofs.Common.{◌∙◌, ap, length}
use Rattle.part_file.proofs.held.PartHeld.rows.Goals as goal

pub returns : goal.returns
returns c = c.self.invariant.count ∙ ap length c.self.view_is
