-- A server that words ask for has no more workers than it may.
use Rattle.std.proofs.Common.{ℕ, ◌≤◌, List, Option, None, Some, arith}
use Rattle.command_line.specs.Asked.{AreWorkers, IsCommand, most_workers}
use Rattle.command_line.specs.declared.command.Command.{Command}
use Rattle.command_line.specs.declared.command.Command.TheVariants.{Pipe, Load, Query, Trial, Serve}
use Rattle.duvonka.specs.Workers.{AreFewWorkers}

four : (syslog : Option (List ℕ)) → 4 ≤ most_workers syslog
four None = omega arith
four (Some address) = omega arith

few : (syslog value : Option (List ℕ)) (workers : ℕ) → AreWorkers (most_workers syslog) value workers
    → workers ≤ most_workers syslog
few syslog None workers are = omega (arith, are, four syslog)
few syslog (Some text) workers are = are.few

pub few_workers : (words : List (List ℕ)) (command : Command) → IsCommand words command → AreFewWorkers command
few_workers words (Pipe fields query) is = tt
few_workers words (Load dir fields) is = tt
few_workers words (Query dir query) is = tt
few_workers words (Trial seed rows) is = tt
few_workers words (Serve dir http syslog workers) is = few syslog _ workers is.said.3
