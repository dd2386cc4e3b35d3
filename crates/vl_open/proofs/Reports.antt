-- What is said where a store was not opened.
use Rattle.std.proofs.Common.{◌≡◌, inl, inr, ℕ, refl, sym, subst}
use Rattle.vl_io.specs.Change.{Change}
use Rattle.vl_io.specs.Faults.{Rose}
use Rattle.vl_vault.specs.Disk.{Past, content}
use Rattle.part_store.specs.Finds.{FindsBatches}
use Rattle.part_store.specs.Reopening.{IsOutside, IsReopenFault}
use Rattle.part_store.specs.declared.fault.ReopenFault.{ReopenFault}
use Rattle.part_store.specs.declared.fault.ReopenFault.TheVariants.{VaultFault, Memory, Damaged, Version}
use Rattle.vl_status.specs.declared.status.Status.{Status}
use Rattle.vl_open.specs.Opening.{ReportsFault, ReportsText, TellsReopening, reopen_fault_text}

-- damage and another version are the content's
inside_damaged : (file at : ℕ) → IsOutside (Damaged file at) → ⊥
inside_damaged file at (inl is) = absurd cc
inside_damaged file at (inr is) = absurd cc

inside_version : (file found : ℕ) → IsOutside (Version file found) → ⊥
inside_version file found (inl is) = absurd cc
inside_version file found (inr is) = absurd cc

module _ (told : Type 0) (past : Past) (before after : ℕ) (errors : Change) where
  abbrev Tells : Status → Type 0
  Tells status = TellsReopening told past before after errors status

  tells_text : (fault : ReopenFault) (status : Status) → (IsOutside fault → ⊥)
      → (told → FindsBatches (content past) → IsOutside fault) → (told → IsReopenFault fault (content past))
      → ReportsText errors (reopen_fault_text fault) status → Tells status
  tells_text fault status inside only is (inl said) =
      subst Tells (sym said.0) (λ tells finds. inside (only tells finds), fault, inside, is, said.1)
  tells_text fault status inside only is (inr said) = subst Tells (sym said.0) said.1

  pub tells : (fault : ReopenFault) (status : Status) → ReportsFault errors fault status
      → (told → FindsBatches (content past) → IsOutside fault) → (told → IsReopenFault fault (content past))
      → (fault ≡ VaultFault → Rose before after) → Tells status
  tells VaultFault status said only is rose = subst Tells (sym said.0) (rose refl, said.1)
  tells Memory status said only is rose = subst Tells (sym said.0) said.1
  tells (Damaged file at) status said only is rose =
      tells_text (Damaged file at) status (inside_damaged file at) only is said
  tells (Version file found) status said only is rose =
      tells_text (Version file found) status (inside_version file found) only is said

-- ---- reports of damage

module _ (errors : Change) (fault : ReopenFault) (status : Status) where
  abbrev Said : ReopenFault → Type 0
  Said f = ReportsText errors (reopen_fault_text f) status → ReportsFault errors fault status

  pub reports_damaged : (file at : ℕ) → fault ≡ Damaged file at → Said (Damaged file at)
  reports_damaged file at is said = subst (λ f. ReportsFault errors f status) (sym is) said

  pub reports_version : (file found : ℕ) → fault ≡ Version file found → Said (Version file found)
  reports_version file found is said = subst (λ f. ReportsFault errors f status) (sym is) said
