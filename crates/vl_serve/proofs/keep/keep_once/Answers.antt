use Rattle.vl_serve.specs.Keeping.{kept_of}
use Rattle.vl_serve.proofs.Keeps.{holds_by, holds_one, rounds_by, rounds_one}
use Rattle.vl_serve.proofs.keep.keep_once.Goals as goal

pub returns-clause-rounds : goal.returns-clause-rounds
returns-clause-rounds g c =
    let told = g.V.Vault.is_told in
    let past = g.V.Vault.past in
    let risen = g.V.Vault.faults in
    let old = c.args.keeper.now in
    let new = c.round.new.self in
    let before = c.args.pass.now in
    let after = c.round.new.pass in
    let round = c.round.ensures in
    rounds_by told past risen old new before after c.of.result (kept_of c.round.result) c.of.ensures
    (rounds_one told past risen c.args.desk.now round.round.0 old new before after c.round.result c.requires round.sees
    round.round.1 round.round.2 round.halted round.stays)

pub returns-clause-holds : goal.returns-clause-holds
returns-clause-holds g c =
    let told = g.V.Vault.is_told in
    let past = g.V.Vault.past in
    let risen = g.V.Vault.faults in
    let round = c.round.ensures in
    holds_by c.round.new.self c.args.pass.now c.of.result (kept_of c.round.result) c.of.ensures
    (holds_one told past risen round.round.0 c.args.keeper.now c.round.new.self c.args.pass.now c.round.new.pass c.round.result
    round.round.1 round.round.2)
