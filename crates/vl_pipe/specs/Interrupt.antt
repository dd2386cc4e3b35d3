-- Why a run ends before all is done, as the program keeps it.
use Rattle.vl_pipe.specs.Program as model
use Rattle.lone_desk.specs.SearchFault.{SearchFault}
use Rattle.lone_desk.specs.SearchFault.TheVariants as running
use Rattle.vl_io.specs.declared.transfer.ReadFault.{ReadFault}
use Rattle.vl_io.specs.declared.transfer.ReadFault.TheVariants as faults
use Rattle.vl_pipe.specs.declared.interrupt.Overflow.{Overflow}
use Rattle.vl_pipe.specs.declared.interrupt.Overflow.TheVariants.{ManyRows, Total}
use Rattle.vl_pipe.specs.declared.interrupt.Limit.{Limit}
use Rattle.vl_pipe.specs.declared.interrupt.Limit.TheVariants.{Long, Large, Full}
use Rattle.vl_pipe.specs.declared.interrupt.Interrupt.{Interrupt}
use Rattle.vl_pipe.specs.declared.interrupt.Interrupt.TheVariants.{Unreadable, Beyond, NoAnswer, NoMemory}

abbrev pub limit_of : Limit → model.Limit
limit_of Long = model.long
limit_of (Large weight) = model.large weight
limit_of Full = model.full

abbrev pub overflow_of : Overflow → model.Overflow
overflow_of ManyRows = model.many_rows
overflow_of (Total name) = model.total name

-- what a fault of reading means for the run
abbrev pub interrupt_at : ReadFault → Interrupt
interrupt_at faults.Failed = Unreadable
interrupt_at faults.Long = Beyond Long
interrupt_at faults.Memory = NoMemory

-- what a fault of the evaluation means for the run
abbrev pub interrupt_of : SearchFault → Interrupt
interrupt_of running.ManyRows = NoAnswer ManyRows
interrupt_of (running.Overflow name) = NoAnswer (Total name)
interrupt_of running.Memory = NoMemory
