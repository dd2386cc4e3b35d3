use Rattle.std.proofs.lemmas.Result.{on_ok_weaker}
use Rattle.lq_stats.proofs.partial.Partial.add_all.Goals as goal

pub returns : goal.returns
returns c = on_ok_weaker c.add_all.result
    (λ all g before h. record { planned = h.planned; taken = all g before h.planned h.taken })
    c.add_all.ensures.taken
