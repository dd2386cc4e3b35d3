-- Runs of calls on one file of which nothing is said.
use Rattle.std.proofs.Common.{ℕ, List}
use Rattle.std.specs.Prelude.{Result, ⊤}
use Rattle.vl_vault.specs.Calls.{DidCut, DidWrite}
use Rattle.vl_vault.specs.Disk.{Past}
use Rattle.vl_vault.specs.Moments.{Always, ChangesFile}
use Rattle.vl_vault.proofs.Runs.{begun_any, cut_on, wrote_on}

module _ (file : ℕ) (old : Past) where
  pub cut-any : {T E : Type 0} {new : Past} {len : ℕ} {r : Result T E} → DidCut old new file len r
      → Always (ChangesFile file (λ _. ⊤) old) old new
  cut-any did = cut_on file (λ _. ⊤) old (begun_any file old) did (λ d c here cut. tt)

  pub wrote-any : {T E : Type 0} {mid new : Past} {at : ℕ} {bytes : List ℕ} {r : Result T E}
      → Always (ChangesFile file (λ _. ⊤) old) old mid → DidWrite mid new file at bytes r
      → Always (ChangesFile file (λ _. ⊤) old) old new
  wrote-any run did = wrote_on file (λ _. ⊤) old run did (λ d c here torn. tt)
