use Rattle.std.proofs.lemmas.Result.{IfErr-weaker, IfOk-weaker}
use Rattle.lq_stats.proofs.partial.Partial.finish.Goals as goal

pub returns-clause-made : goal.returns-clause-made
returns-clause-made c = IfOk-weaker c.finish.result _ _ (λ made all g records h. all g records h.planned h.taken)
    c.finish.ensures.made

pub returns-clause-fault : goal.returns-clause-fault
returns-clause-fault c = IfErr-weaker c.finish.result _ _ (λ fault all g records h. all g records h.planned h.taken)
    c.finish.ensures.fault
