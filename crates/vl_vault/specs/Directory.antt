-- The vault over a directory.
use Rattle.std.specs.Prelude.{◌≡◌, ◌==◌, ℕ, Option, IsSome, false, position, true}
use Rattle.vl_vault.specs.declared.directory.DirVault.{DirVault}
use Rattle.vl_vault.specs.declared.files.Access.TheVariants.{Write}
use Rattle.vl_vault.specs.declared.files.FileTable.{FileTable}

abbrev pub directory_faults : {R : Type 0} → DirVault R → ℕ
directory_faults vault = vault.faults

-- where the file stands among the open ones
abbrev pub place_of : FileTable → ℕ → Option ℕ
place_of table file = position (λ kept. kept.number == file) table.changed.items

-- A file that was changed stays open until it is synced.
abbrev pub IsOpen : FileTable → ℕ → Type 0
IsOpen table file = IsSome (place_of table file)

-- Only the path is another.
pub record HasOtherPath (old new : FileTable) : Type 0 where
  pub directory : new.directory ≡ old.directory
  pub access : new.access ≡ old.access
  pub names : new.names_changed ≡ old.names_changed
  pub changed : new.changed ≡ old.changed
  pub sync_failed : new.sync_failed ≡ old.sync_failed

-- What may be changed is as before, and a sync that failed stays remembered.
pub record KeepsSyncs (old new : FileTable) : Type 0 where
  pub access : new.access ≡ old.access
  pub remembered : old.sync_failed ≡ true → new.sync_failed ≡ true

-- The directory can be used, and only the path is another.
abbrev pub IsFound : FileTable → FileTable → Type 0
IsFound old new = IsSome old.directory × HasOtherPath old new

-- The vault was opened for writing.
abbrev pub MayChange : {R : Type 0} → DirVault R → Type 0
MayChange vault = vault.files.access ≡ Write

-- The file is kept open, since it was changed and is not synced.
abbrev pub HasOpen : {R : Type 0} → DirVault R → ℕ → Type 0
HasOpen vault file = IsOpen vault.files file

-- No file was created or removed since the directory was last synced.
abbrev pub AreNamesSynced : {R : Type 0} → DirVault R → Type 0
AreNamesSynced vault = vault.files.names_changed ≡ false

-- No sync has failed.
abbrev pub NoSyncFailed : {R : Type 0} → DirVault R → Type 0
NoSyncFailed vault = vault.files.sync_failed ≡ false

-- A sync has failed.
abbrev pub HasFailedSync : {R : Type 0} → DirVault R → Type 0
HasFailedSync vault = vault.files.sync_failed ≡ true

-- What may be changed is as before, and a sync that failed stays remembered.
abbrev pub GoesOn : {R : Type 0} → DirVault R → DirVault R → Type 0
GoesOn old new = KeepsSyncs old.files new.files
