-- Why an answer is not written.
use Rattle.std.proofs.Common.{ℤ, List}
use Rattle.vl_io.specs.Change.{Change}
use Rattle.log_model.specs.Row.{Row}
use Rattle.lone_desk.specs.Answer.{FailsOver}
use Rattle.lone_desk.specs.Question.{Question}
use Rattle.lone_desk.specs.SearchFault.{SearchFault}
use Rattle.lone_desk.specs.SearchFault.TheVariants.{ManyRows, Overflow, Memory}
use Rattle.vl_pipe.specs.Interrupt.{interrupt_of}
use Rattle.vl_pipe.specs.Pipe.{StopsAnswer}

pub stops_answer : (query : Question) (now : ℤ) (rows : List Row) (output : Change) (fault : SearchFault)
    → FailsOver query now rows fault → StopsAnswer query now rows output (interrupt_of fault)
stops_answer query now rows output ManyRows fails = fails
stops_answer query now rows output (Overflow name) fails = fails
stops_answer query now rows output Memory fails = tt
