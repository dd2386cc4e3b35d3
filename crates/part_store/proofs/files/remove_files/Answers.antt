use Rattle.std.proofs.Common.{arith, get_or}
use Rattle.std.specs.List.{Contains}
use Rattle.std.proofs.lemmas.List.Elements.{Contains-get_or}
use Rattle.part_store.proofs.Running.{begun_only, only_on}
use Rattle.part_store.proofs.files.remove_files.Goals as goal

pub loop-file-init : goal.loop-file-init
loop-file-init g c = record {
  moments = λ told. begun_only (Contains c.args.files.now) (g.V.Vault.past c.args.vault.now);
  stays = omega arith;
}

pub returns-in_err-remove_part-clause-moments : goal.returns-in_err-remove_part-clause-moments
returns-in_err-remove_part-clause-moments g c = λ told.
    let files = c.args.files.now in
    let i = c.loop-file.file-index in
    only_on (Contains files) (g.V.Vault.past c.args.vault.now) (get_or files i 0)
    (Contains-get_or files i 0 c.loop-file-test.true)
    (c.loop-file.invariant.moments told) (c.remove_part.ensures.moments told)

pub loop-file-preserved : goal.loop-file-preserved
loop-file-preserved g c = record {
  moments = λ told.
      let files = c.args.files.now in
      let i = c.loop-file.file-index in
      only_on (Contains files) (g.V.Vault.past c.args.vault.now) (get_or files i 0)
      (Contains-get_or files i 0 c.loop-file-test.true)
      (c.loop-file.invariant.moments told) (c.remove_part.ensures.moments told);
  stays = omega (arith, c.loop-file.invariant.stays, c.remove_part.ensures.cause.stays);
}
