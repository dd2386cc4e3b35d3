use Rattle.std.specs.Arc.{arc_value}
use Rattle.log_desk.proofs.PreparedLaws.{prepared_of}
use Rattle.log_desk.proofs.prepared.PreparedBatch.of.Goals as goal

pub returns : goal.returns
returns c =
    prepared_of (arc_value c.in_ok-part.part) c.args.batch.now c.in_ok-part.ensures.whole
    (0, c.in_ok-part.ensures.same)
