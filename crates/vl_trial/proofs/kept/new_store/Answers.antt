use Rattle.std.proofs.Common.{ap, subst, sym}
use Rattle.part_store.specs.Finds.{FindsParts}
use Rattle.part_store.specs.Reopening.{AreListedDurable}
use Rattle.vl_vault.specs.Disk.{content}
use Rattle.vl_vault.specs.Memory.{VaultState}
use Rattle.vl_trial.proofs.Keeping.{new_durable, new_front}
use Rattle.vl_trial.proofs.kept.new_store.Goals as goal

pub reopen-requires : goal.reopen-requires
reopen-requires c = record {
  durable = λ told. subst AreListedDurable (sym (ap (λ (v : VaultState). v.past) c.in_ok-vault.ensures)) new_durable;
}

pub returns-in-Ok-clause-nothing : goal.returns-in-Ok-clause-nothing
returns-in-Ok-clause-nothing c =
    let store = c.in-Ok.store in
    new_front store.front store.parts
    (subst (λ past. FindsParts store.front store.parts (content past))
    (ap (λ (v : VaultState). v.past) c.in_ok-vault.ensures) (c.in-Ok.ensures.found tt))
