use Rattle.vl_vault.proofs.Runs.{begun_unchanged, read_on}
use Rattle.part_files.proofs.read.file_bytes.Goals as goal

pub returns-in_err-length-clause-moments : goal.returns-in_err-length-clause-moments
returns-in_err-length-clause-moments g c = λ told.
    read_on _ (begun_unchanged (g.V.Vault.past c.args.vault.now)) (c.length.ensures.told told)

pub returns-then-length-entry-clause-moments : goal.returns-then-length-entry-clause-moments
returns-then-length-entry-clause-moments g c = λ told.
    read_on _ (begun_unchanged (g.V.Vault.past c.args.vault.now)) (c.length.ensures.told told)

pub returns-in_err-bytes-clause-moments : goal.returns-in_err-bytes-clause-moments
returns-in_err-bytes-clause-moments g c = λ told.
    read_on _ (begun_unchanged (g.V.Vault.past c.args.vault.now)) (c.length.ensures.told told)

pub returns-in_err-count-clause-moments : goal.returns-in_err-count-clause-moments
returns-in_err-count-clause-moments g c = λ told.
    let first = read_on _ (begun_unchanged (g.V.Vault.past c.args.vault.now)) (c.length.ensures.told told) in
    read_on _ first (c.read.ensures.told told)

pub returns-clause-moments : goal.returns-clause-moments
returns-clause-moments g c = λ told.
    let first = read_on _ (begun_unchanged (g.V.Vault.past c.args.vault.now)) (c.length.ensures.told told) in
    read_on _ first (c.read.ensures.told told)
