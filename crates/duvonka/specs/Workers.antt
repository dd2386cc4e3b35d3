-- How many workers a server has, and which doors a command is given.
use Rattle.std.specs.Prelude.{ℕ, zero, suc, ◌≤◌, ◌++◌, List, [], ◌∷◌, None, Some}
use Rattle.vl_io.specs.declared.outside.VisitKind.{VisitKind}
use Rattle.vl_io.specs.declared.outside.VisitKind.TheVariants.{Http, Syslog}
use Rattle.command_line.specs.Asked.{most_workers}
use Rattle.command_line.specs.declared.command.Command.{Command}
use Rattle.command_line.specs.declared.command.Command.TheVariants.{Pipe, Load, Query, Trial, Serve}

-- It has no more than it may have at its addresses.
abbrev pub AreFewWorkers : Command → Type 0
AreFewWorkers (Pipe fields query) = Unit {0}
AreFewWorkers (Load dir fields) = Unit {0}
AreFewWorkers (Query dir query) = Unit {0}
AreFewWorkers (Trial seed rows) = Unit {0}
AreFewWorkers (Serve dir http syslog workers) = workers ≤ most_workers syslog

-- this many doors for HTTP
abbrev pub all_http : ℕ → List VisitKind
all_http zero = []
all_http (suc count) = all_http count ++ Http ∷ []

-- this many doors for syslog and as many for HTTP, in turn
abbrev pub in_turn : ℕ → List VisitKind
in_turn zero = []
in_turn (suc count) = in_turn count ++ Syslog ∷ Http ∷ []

-- What the doors of a command speak. A server has as many for HTTP as it has workers, and as many for syslog, where it
-- has an address for that. Another command has none.
abbrev pub kinds_for : Command → List VisitKind
kinds_for (Pipe fields query) = []
kinds_for (Load dir fields) = []
kinds_for (Query dir query) = []
kinds_for (Trial seed rows) = []
kinds_for (Serve dir http None workers) = all_http workers
kinds_for (Serve dir http (Some address) workers) = in_turn workers
