use Rattle.std.proofs.Common.{FitsSigned, w64}
use Rattle.std.proofs.lemmas.Int.{to_z-of_z}
use Rattle.vl_trial.proofs.trial.lines_of.Goals as goal

pub returns-in-Ok-clause-lines : goal.returns-in-Ok-clause-lines
returns-in-Ok-clause-lines g c =
    let fits : FitsSigned w64 c.args.now = c.ranges.now in
    let answered = simp to_z-of_z at c.in-Ok.ensures.answered in
    record {
      query = answered.query;
      spelled = answered.spelled;
      readable = answered.readable;
      facts = answered.facts.over;
    }
