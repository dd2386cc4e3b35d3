use Rattle.std.proofs.Common.{◌++◌, subst}
use Rattle.std.proofs.lemmas.Result.{on_ok_weaker}
use Rattle.lq_stats.specs.Partial.{StandsFor}
use Rattle.lq_stats.proofs.partial.Partial.add.Goals as goal

pub returns : goal.returns
returns c = on_ok_weaker c.add_all.result
    (λ all g records h.
    subst (λ more. StandsFor c.add_all.new.self g (records ++ more)) c.from_ref.ensures.value (all g records h))
    c.add_all.ensures
