-- How a server ends, by how its doors were served and what its rounds came to.
use Rattle.std.proofs.Common.{◌≡◌, ℕ, zero, suc, ◌+◌, ◌<◌, ◌≤◌, Bool, true, false, cond, List, [], ◌∷◌}
use Rattle.std.proofs.Common.{Option, None, Some, ap, refl, sym, arith, ◌∙◌}
use Rattle.std.specs.Prelude.{count_by}
use Rattle.std.specs.List.{AllZip}
use Rattle.std.proofs.lemmas.List.Sums.{sum_by-cons}
use Rattle.vl_io.specs.Change.{Change}
use Rattle.log_desk.specs.declared.fault.KeepFault.{KeepFault}
use Rattle.log_desk.specs.declared.fault.KeepFault.TheVariants as keeps
use Rattle.part_store.specs.State.{StoreState}
use Rattle.vl_open.specs.Opening.{TellsReopening}
use Rattle.vl_pipe.specs.VaultChange.{VaultChange}
use Rattle.vl_serve.specs.Doors.{AreServed, DoorChange, EndDoors, IsServed}
use Rattle.vl_serve.specs.Keeping.{HasKeptCause}
use Rattle.vl_serve.specs.declared.serving.ServeEnd.{ServeEnd}
use Rattle.vl_status.specs.declared.status.Status.{Status}
use Rattle.vl_status.specs.declared.status.Status.TheVariants as statuses
use Rattle.vl_top.specs.Server.{AreDone, EndsServer, HasFailedDoor, TellsEnd, end_status, first_status}
use Rattle.vl_top.specs.Vault.{HasFailedVault}

counted : (is_fault : Bool) (ends : List Bool)
    → count_by (λ b. b) (is_fault ∷ ends) ≡ cond is_fault 1 0 + count_by (λ b. b) ends
counted is_fault ends = sum_by-cons (λ b. cond b 1 0) is_fault ends

some_failed : (doors : List DoorChange) (ends : List Bool) → AllZip IsServed doors ends
    → 0 < count_by (λ b. b) ends → HasFailedDoor doors
some_failed [] [] each some = absurd (omega (arith, some))
some_failed [] (end ∷ ends) each some = absurd each
some_failed (door ∷ doors) [] each some = absurd each
some_failed (door ∷ doors) (true ∷ ends) each some = record { before = []; door = door; behind = doors; are = refl; failed = each.0 }
some_failed (door ∷ doors) (false ∷ ends) each some =
    let later = some_failed doors ends each.1 (omega (arith, counted false ends, some)) in
    record { before = door ∷ later.before; door = later.door; behind = later.behind; are = ap (λ ds. door ∷ ds) later.are; failed = later.failed }

none_failed : (doors : List DoorChange) (ends : List Bool) → AllZip IsServed doors ends
    → count_by (λ b. b) ends ≡ 0 → AreDone doors
none_failed [] [] each none = tt
none_failed [] (end ∷ ends) each none = absurd each
none_failed (door ∷ doors) [] each none = absurd each
none_failed (door ∷ doors) (true ∷ ends) each none = absurd (omega (arith, counted true ends, none))
none_failed (door ∷ doors) (false ∷ ends) each none =
    (each.0, none_failed doors ends each.1 (omega (arith, counted false ends, none)))

has_failed : (doors : List DoorChange) (door_faults : ℕ) → AreServed doors door_faults → 0 < door_faults
    → HasFailedDoor doors
has_failed doors door_faults served some =
    some_failed doors served.ends served.each (omega (arith, served.counted, some))

are_done : (doors : List DoorChange) (door_faults : ℕ) → AreServed doors door_faults → door_faults ≡ 0
    → AreDone doors
are_done doors door_faults served none =
    none_failed doors served.ends served.each (omega (arith, served.counted, none))

-- The vault failed during the rounds, if that is why they stopped.
abbrev pub HasVaultCause : VaultChange → Option KeepFault → Type 0
HasVaultCause vault None = Unit {0}
HasVaultCause vault (Some (keeps.Halted fault)) = HasFailedVault vault
HasVaultCause vault (Some keeps.Spent) = Unit {0}
HasVaultCause vault (Some keeps.VaultFault) = HasFailedVault vault
HasVaultCause vault (Some keeps.Memory) = Unit {0}

-- it did, by the cause that serving names, where the store had not halted before
pub vault_cause : {V : Type 0} (faults : V → ℕ) (old new : StoreState V) (vault : VaultChange) (kept : Option KeepFault)
    → old.halted ≡ None → vault.faults_before ≤ faults old.vault → vault.faults_after ≡ faults new.vault
    → HasKeptCause faults old new kept → HasVaultCause vault kept
vault_cause faults old new vault None on before after cause = tt
vault_cause faults old new vault (Some (keeps.Halted fault)) on before after cause = absurd (differ (sym on ∙ cause))
  where
    differ : None ≡ Some fault → ⊥
    differ is = cc
vault_cause faults old new vault (Some keeps.Spent) on before after cause = tt
vault_cause faults old new vault (Some keeps.VaultFault) on before after cause = omega (arith, before, after, cause)
vault_cause faults old new vault (Some keeps.Memory) on before after cause = tt

-- how a server ends that did not open its vault
pub ends_unopened : (told : Type 0) (errors : Change) (vault : VaultChange) (doors : List DoorChange) (status : Status)
    → TellsReopening told vault.before vault.faults_before vault.faults_after errors status
    → EndsServer told errors vault doors status
ends_unopened told errors vault doors statuses.Done tells = absurd tells
ends_unopened told errors vault doors statuses.QueryRefused tells = absurd tells
ends_unopened told errors vault doors statuses.Usage tells = absurd tells
ends_unopened told errors vault doors statuses.ReadFault tells = absurd tells
ends_unopened told errors vault doors statuses.WriteFault tells = absurd tells
ends_unopened told errors vault doors statuses.VaultFault tells = tells
ends_unopened told errors vault doors statuses.Damaged tells = tells
ends_unopened told errors vault doors statuses.DoorFault tells = absurd tells
ends_unopened told errors vault doors statuses.Limit tells = absurd tells
ends_unopened told errors vault doors statuses.NoMemory tells = tells

-- how a server ends, by how serving ended
pub ends_server : (told : Type 0) (errors : Change) (vault : VaultChange) (doors : List DoorChange) (end : ServeEnd)
    → EndDoors doors end.door_faults → HasVaultCause vault end.kept → TellsEnd errors (end_status end)
    → EndsServer told errors vault doors (end_status end)
ends_server told errors vault doors end over cause said = by_parts end.memory end.kept end.door_faults over cause said
  where
    by_parts : (memory : Bool) (kept : Option KeepFault) (count : ℕ) → EndDoors doors count → HasVaultCause vault kept
        → TellsEnd errors (first_status memory kept count)
        → EndsServer told errors vault doors (first_status memory kept count)
    by_parts true kept count over cause said = said
    by_parts false (Some (keeps.Halted fault)) count over cause said = (cause, said)
    by_parts false (Some keeps.Spent) count over cause said = said
    by_parts false (Some keeps.VaultFault) count over cause said = (cause, said)
    by_parts false (Some keeps.Memory) count over cause said = said
    by_parts false None zero over cause said = (are_done doors zero over.served refl, said)
    by_parts false None (suc count) over cause said =
        (has_failed doors (suc count) over.served (omega arith), over.over, said)
