use Rattle.std.proofs.Common.{◌∙◌, ap}
use Rattle.part_model.specs.Part.{rows_weight}
use Rattle.part_file.proofs.held.PartHeld.weight.Goals as goal

pub returns : goal.returns
returns c = c.self.invariant.sum ∙ ap rows_weight c.self.view_is
