-- What the words of a command line ask for.
use Rattle.std.specs.Prelude.{◌≡◌, ℕ, ◌^◌, ◌-◌, ◌≤◌, List, [], Option, Some, None, codes, decimal}
use Rattle.clap.specs.Faults.{fault_of}
use Rattle.clap.specs.Simple.{subcommand_of}
use Rattle.clap.specs.Walk.{Row, Text, first_of}
use Rattle.command_line.specs.Program.{program}
use Rattle.command_line.specs.declared.command.Command.{Command}
use Rattle.command_line.specs.declared.command.Command.TheVariants.{Pipe, Load, Query, Trial, Serve}

-- The value is a number from `least` to `most`, in decimal digits without a sign or a zero ahead.
pub record IsNumber (least most : ℕ) (value : Option Text) (number : ℕ) : Type 0 where
  pub spelled : value ≡ Some (decimal number)
  pub enough : least ≤ number
  pub few : number ≤ most

-- how many workers each address may have, by the address for syslog, if there is one
abbrev pub most_workers : Option Text → ℕ
most_workers None = 64
most_workers (Some address) = 32

-- The value says how many workers each address has, from 1 to `most`. Without a value they are 4.
abbrev pub AreWorkers : ℕ → Option Text → ℕ → Type 0
AreWorkers most None workers = workers ≡ 4
AreWorkers most (Some text) workers = IsNumber 1 most (Some text) workers

-- the word that names the command
abbrev pub name_of : Command → Text
name_of (Pipe fields query) = codes "pipe"
name_of (Load dir fields) = codes "load"
name_of (Query dir query) = codes "query"
name_of (Trial seed rows) = codes "trial"
name_of (Serve dir http syslog workers) = codes "serve"

-- What the command holds is what the values of its arguments say.
abbrev pub HasValues : List Row → Command → Type 0
HasValues values (Pipe fields query) =
    (first_of (codes "stream-fields") values ≡ fields)
    × (first_of (codes "query") values ≡ Some query)
HasValues values (Load dir fields) =
    (first_of (codes "dir") values ≡ Some dir)
    × (first_of (codes "stream-fields") values ≡ fields)
HasValues values (Query dir query) =
    (first_of (codes "dir") values ≡ Some dir)
    × (first_of (codes "query") values ≡ Some query)
HasValues values (Trial seed rows) =
    IsNumber 0 (2 ^ 63 - 1) (first_of (codes "seed") values) seed
    × IsNumber 0 1000000 (first_of (codes "rows") values) rows
HasValues values (Serve dir http syslog workers) =
    (first_of (codes "dir") values ≡ Some dir)
    × (first_of (codes "http") values ≡ Some http)
    × (first_of (codes "syslog") values ≡ syslog)
    × AreWorkers (most_workers syslog) (first_of (codes "workers") values) workers

-- The words meet the program's definition and name this command, and it holds what the values after its name say.
pub record IsCommand (words : List Text) (command : Command) : Type 0 where
  pub values : List Row
  pub taken : fault_of program words ≡ []
  pub named : subcommand_of program words ≡ Some (name_of command, values)
  pub said : HasValues values command
