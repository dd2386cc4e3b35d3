use Rattle.parts_list.proofs.Live.{list_begun}
use Rattle.parts_list.proofs.write.write_list.Goals as goal

pub returns-in_err-body-clause-moments : goal.returns-in_err-body-clause-moments
returns-in_err-body-clause-moments g c = λ told. list_begun c.args.list.now (g.V.Vault.past c.args.vault.now)
    (c.requires.durable told)
