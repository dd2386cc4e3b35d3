use Rattle.vl_serve.specs.Keeping.{no_rounds}
use Rattle.vl_serve.proofs.Keeps.{rounds_by, rounds_still}
use Rattle.vl_serve.proofs.serving.keep_last.Goals as goal

pub returns-clause-rounds : goal.returns-clause-rounds
returns-clause-rounds g c =
    let told = g.V.Vault.is_told in
    let past = g.V.Vault.past in
    let risen = g.V.Vault.faults in
    let store = c.args.keeper.now in
    let pass = c.args.pass.now in
    rounds_by told past risen store store pass pass c.new.result no_rounds c.new.ensures
    (rounds_still told past risen c.args.desk.now store pass c.requires c.finds_law.ensures)
