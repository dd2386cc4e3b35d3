use Rattle.std.proofs.Common.{◌≡◌, ℕ, [], ap, subst, sym}
use Rattle.parts_list.specs.declared.list.Entry.{Entry}
use Rattle.vl_vault.specs.Memory.{VaultState}
use Rattle.vl_vault.specs.Moments.{IsDurable}
use Rattle.part_store.proofs.Every.{always}
use Rattle.vl_serve_tests.proofs.serving_tests.new_store.Goals as goal

durable : (v : VaultState) → v.past ≡ [] → (file : ℕ) → IsDurable v.past file
durable v new file = subst (λ p. IsDurable p file) (sym new) (λ bytes left. left)

pub reopen-requires : goal.reopen-requires
reopen-requires c = record {
  durable = λ told list found.
      always (λ (entry : Entry). IsDurable c.in_ok-vault.vault.past entry.file) (λ entry.
      durable c.in_ok-vault.vault (ap (λ (v : VaultState). v.past) c.in_ok-vault.ensures) entry.file) list.entries;
}
