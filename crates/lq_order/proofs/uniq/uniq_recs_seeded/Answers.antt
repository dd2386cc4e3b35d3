use Rattle.std.proofs.Common.{subst}
use Rattle.std.proofs.lemmas.Result.{IfOk-weaker}
use Rattle.lq_order.specs.Tally.{Tallies}
use Rattle.lq_order.proofs.uniq.uniq_recs_seeded.Goals as goal

pub returns : goal.returns
returns c =
    let tallied = subst (λ ns. Tallies c.in_ok-of.field-0 ns c.args.r) c.as_slice.ensures c.in_ok-of.ensures in
    IfOk-weaker c.uniq.result _ _ (λ made e. e c.args.r tallied) c.uniq.ensures
