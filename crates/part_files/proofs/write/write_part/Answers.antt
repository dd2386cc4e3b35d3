use Rattle.std.specs.Prelude.{⊤}
use Rattle.vl_vault.proofs.Runs.{synced}
use Rattle.part_files.proofs.WriteLaws.{cut-any, wrote-any}
use Rattle.part_files.proofs.write.write_part.Goals as goal

pub returns-in_err-cut-clause-moments : goal.returns-in_err-cut-clause-moments
returns-in_err-cut-clause-moments g c = λ told.
    cut-any c.args.file (g.V.Vault.past c.args.vault.now) (c.cut.ensures.told told)

pub returns-in_err-write_at-clause-moments : goal.returns-in_err-write_at-clause-moments
returns-in_err-write_at-clause-moments g c = λ told.
    let old = g.V.Vault.past c.args.vault.now in
    wrote-any c.args.file old (cut-any c.args.file old (c.cut.ensures.told told)) (c.write_at.ensures.told told)

pub returns-clause-moments : goal.returns-clause-moments
returns-clause-moments g c = λ told.
    let old = g.V.Vault.past c.args.vault.now in
    let run = wrote-any c.args.file old (cut-any c.args.file old (c.cut.ensures.told told)) (c.write_at.ensures.told told) in
    synced c.args.file (λ _. ⊤) old _ run (c.sync.ensures.told told)
