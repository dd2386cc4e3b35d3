use Rattle.std.proofs.Common.{◌≡◌, ◌∙◌, ◌+◌, [], length, get_or, map, ap, sym, arith}
use Rattle.std.specs.Prelude.{vec_items}
use Rattle.std.proofs.lemmas.List.{get_or-map}
use Rattle.vl_vault.specs.Disk.{content}
use Rattle.vl_vault.proofs.Runs.{last}
use Rattle.part_store.specs.Preparing.{IsNewFile}
use Rattle.part_store.proofs.Running.{begun_only, only_on, contents_more}
use Rattle.part_store.proofs.files.write_files.Goals as goal

pub loop-i-init : goal.loop-i-init
loop-i-init g c = record {
  moments = λ told. begun_only (IsNewFile c.args.first (length c.args.contents.now)) (g.V.Vault.past c.args.vault.now);
  written = λ told k below. absurd (omega arith);
  stays = omega arith;
}

pub returns-in_err-write_part-clause-moments : goal.returns-in_err-write_part-clause-moments
returns-in_err-write_part-clause-moments g c = λ told.
    only_on (IsNewFile c.args.first (length c.args.contents.now)) (g.V.Vault.past c.args.vault.now)
    (c.args.first + c.loop-i.i) (omega arith, omega (arith, c.loop-i-test.true)) (c.loop-i.invariant.moments told)
    (c.write_part.ensures.moments told)

pub loop-i-preserved : goal.loop-i-preserved
loop-i-preserved g c = record {
  moments = λ told.
      only_on (IsNewFile c.args.first (length c.args.contents.now)) (g.V.Vault.past c.args.vault.now)
      (c.args.first + c.loop-i.i) (omega arith, omega (arith, c.loop-i-test.true)) (c.loop-i.invariant.moments told)
      (c.write_part.ensures.moments told);
  written = λ told.
      let contents = c.args.contents.now in
      let i = c.loop-i.i in
      let item = c.index-contents-i.result in
      let is : content (g.V.Vault.past c.write_part.new.vault) (c.args.first + i) ≡ get_or
      (map vec_items contents) i [] =
      c.in_ok-write_part.ensures.written told ∙ c.deref.ensures.value ∙ ap vec_items c.index-contents-i.is
      ∙ sym (get_or-map vec_items contents i item [] c.loop-i-test.true) in
      contents_more c.args.first i (map vec_items contents) (g.V.Vault.past c.loop-i.vault)
      (g.V.Vault.past c.write_part.new.vault)
      (c.loop-i.invariant.written told) (last (c.write_part.ensures.moments told))
      (c.in_ok-write_part.ensures.durable told) is;
  stays = omega (arith, c.loop-i.invariant.stays, c.write_part.ensures.cause.stays);
}
