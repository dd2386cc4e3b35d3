-- What clap says of the program's command line.
use Rattle.std.proofs.Common.{◌≡◌, ◌⊎◌, inl, inr, true, [], ◌∷◌, Result, Ok, Err, IfErr, sym, ap, ◌∙◌, refl}
use Rattle.std.specs.Result.{IsErrAnd}
use Rattle.clap.specs.Faults.{is_simple_and_free}
use Rattle.clap.specs.Kinds.{HasKind, IsAmong, Kinds}
use Rattle.clap.specs.Simple.{is_simple}
use Rattle.clap.specs.Values.{kind_of}
use Rattle.clap.specs.declared.error.Error.{Error}
use Rattle.clap.specs.declared.error.kind.ErrorKind.{ErrorKind}
use Rattle.clap.specs.declared.error.kind.ErrorKind.TheVariants.{OutOfMemory}
use Rattle.command_line.specs.Faults.{fault_for}
use Rattle.command_line.specs.Program.{program}
use Rattle.command_line.specs.declared.fault.UsageFault.{UsageFault}
use Rattle.command_line.specs.declared.fault.UsageFault.TheVariants.{Memory, Usage}

pub program_is_simple : is_simple program ≡ true
unfolding program
program_is_simple = refl

pub program_is_free : is_simple_and_free program ≡ true
unfolding program
program_is_free = refl

-- what is refused for another cause than memory has a cause
pub usage_has_cause : (kind : ErrorKind) (kinds : Kinds) → (kind ≡ OutOfMemory) ⊎ IsAmong kind kinds
    → fault_for kind ≡ Usage → kinds ≡ [] → ⊥
usage_has_cause kind [] (inl memory) usage none =
    let same : Memory ≡ Usage = sym (ap fault_for memory) ∙ usage in
    cc
usage_has_cause kind [] (inr cause) usage none = cause
usage_has_cause kind (k ∷ ks) h usage none = absurd cc

pub refused : {T : Type 0} (r : Result T UsageFault) (e : Error) (kinds found : Kinds)
    → IsErrAnd r (λ fault. fault ≡ fault_for (kind_of e)) → HasKind kinds e → kinds ≡ found
    → IfErr r (λ fault. fault ≡ Usage → found ≡ [] → ⊥)
refused (Ok x) e kinds found given has same = tt
refused (Err fault) e kinds found given has same =
    λ usage none. usage_has_cause (kind_of e) kinds has (sym given ∙ usage) (same ∙ none)
