use Rattle.std.proofs.Common.{[], refl, subst, sym}
use Rattle.std.specs.Prelude.{None}
use Rattle.vl_vault.specs.Memory.{VaultState}
use Rattle.vl_vault.proofs.Runs.{durable_new}
use Rattle.vl_vault.proofs.Tearing.{if_ok}
use Rattle.parts_list_tests.specs.Awaits.{Awaits}
use Rattle.parts_list_tests.proofs.crash_tests.new_vault.Goals as goal

awaits_first : Awaits [] 1
awaits_first = record { durable = λ file inside. durable_new file; live = None; found = refl; next = refl }

pub returns : goal.returns
returns c =
    if_ok c.of.result (λ (v : VaultState) is. subst (λ (s : VaultState). Awaits s.past 1) (sym is) awaits_first)
    c.of.ensures
