-- The faults of pipes that set fields.
use Rattle.std.specs.Prelude.{◌≡◌, Err}
use Rattle.lq_ast.specs.Made.{made}
use Rattle.lq_ast.specs.Making.{Making}
use Rattle.lq_ast.specs.Records.{Record}
use Rattle.row_pipes.specs.declared.fault.MakeFault.{MakeFault}
use Rattle.row_pipes.specs.declared.fault.MakeFault.TheVariants.{Overflow, Memory}

-- The overflow is the first of this record. Memory may always be wanting.
abbrev pub IsMakeFault : Making → Record → MakeFault → Type 0
IsMakeFault making r (Overflow name) = made making r ≡ Err name
IsMakeFault making r Memory = Unit {0}
