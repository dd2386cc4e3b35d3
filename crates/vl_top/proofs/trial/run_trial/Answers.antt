use Rattle.std.proofs.Common.{refl, subst, sym, unsigned_abs}
use Rattle.vl_io.proofs.Laws.{FirstTold-from_one}
use Rattle.vl_top.specs.Trial.{EndsTrial}
use Rattle.vl_top.proofs.trial.run_trial.Goals as goal

pub returns-in_default-clause-ends : goal.returns-in_default-clause-ends
returns-in_default-clause-ends g c = (
  unsigned_abs c.now-now.result,
  FirstTold-from_one _ _ _ c.now-now.ensures.told,
  subst (EndsTrial _ _ _ _ _) (sym c.report_no_memory.ensures.status) (refl, c.report_no_memory.ensures.said),
)
