use Rattle.command_line.proofs.Functional.{one_command}
use Rattle.command_line.proofs.reading.command_law.Goals as goal

pub returns : goal.returns
returns c = one_command
