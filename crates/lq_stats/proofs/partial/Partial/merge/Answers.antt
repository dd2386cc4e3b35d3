use Rattle.std.proofs.lemmas.Result.{on_ok_weaker}
use Rattle.lq_stats.proofs.partial.Partial.merge.Goals as goal

pub returns : goal.returns
returns c = on_ok_weaker c.merge.result
    (λ all g records others h k. record { planned = h.planned; taken = all g records others h.planned h.taken k.taken })
    c.merge.ensures.taken
