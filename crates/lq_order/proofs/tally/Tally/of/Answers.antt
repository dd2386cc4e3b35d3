use Rattle.std.proofs.Common.{[], ◌∙◌, subst, arith}
use Rattle.lq_order.specs.Tally.{Tallies}
use Rattle.lq_order.proofs.tally.Tally.of.Goals as goal

pub returns : goal.returns
returns c =
    let names = c.args.names.now in
    let all = c.in_ok-add_all.ensures names []
    (omega (arith, c.as_slice.ensures.len, c.into_vec-records.result.ok.0)) c.seeded-tally.ensures in
    subst (Tallies c.add_all.new.self names) (c.as_slice.ensures.value ∙ c.into_vec-records.ensures) all
