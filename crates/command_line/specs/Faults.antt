-- Why words are not a command.
use Rattle.std.specs.Prelude.{ℕ, List, codes}
use Rattle.clap.specs.declared.error.kind.ErrorKind.{ErrorKind}
use Rattle.clap.specs.declared.error.kind.ErrorKind.TheVariants.{OutOfMemory}
use Rattle.command_line.specs.declared.fault.UsageFault.{UsageFault}
use Rattle.command_line.specs.declared.fault.UsageFault.TheVariants.{Memory, Usage}

-- what clap's error is to the caller
abbrev pub fault_for : ErrorKind → UsageFault
fault_for OutOfMemory = Memory
fault_for kind = Usage

-- how the faults are named
abbrev pub fault_text : UsageFault → List ℕ
fault_text Usage = codes "usage: pipe, load, query, trial or serve"
fault_text Memory = codes "no memory"
