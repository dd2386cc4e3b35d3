use Rattle.part_files.proofs.WriteLaws.{cut-any}
use Rattle.part_files.proofs.write.remove_part.Goals as goal

pub returns-clause-moments : goal.returns-clause-moments
returns-clause-moments g c = λ told.
    cut-any c.args.file (g.V.Vault.past c.args.vault.now) (c.remove.ensures.told told)
