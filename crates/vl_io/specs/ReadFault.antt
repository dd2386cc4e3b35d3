-- Why a source was not read to its end.
use Rattle.std.specs.Prelude.{ℕ, List, codes}
use Rattle.vl_io.specs.declared.transfer.ReadFault.{ReadFault}
use Rattle.vl_io.specs.declared.transfer.ReadFault.TheVariants.{Failed, Long, Memory}

abbrev pub fault_text : ReadFault → List ℕ
fault_text Failed = codes "read fault"
fault_text Long = codes "input long"
fault_text Memory = codes "no memory"
