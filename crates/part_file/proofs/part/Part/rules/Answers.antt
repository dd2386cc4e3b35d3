use Rattle.std.proofs.Common.{subst}
use Rattle.part_model.specs.Part.{IsPart}
use Rattle.part_file.proofs.part.Part.rules.Goals as goal

pub returns : goal.returns
returns c = subst IsPart c.self.view_is c.self.invariant.part
