-- What a command is to do, with its words by name.
use Rattle.std.specs.Prelude.{ℕ, List, Option}
use Rattle.command_line.specs.declared.command.Command.{Command}
use Rattle.command_line.specs.declared.command.Command.TheVariants.{Pipe, Load, Query, Trial, Serve}

-- the names of the labels, as they were written, if they were, and the text of the query
pub record PipeWords : Type 0 where
  pub stream_fields : Option (List ℕ)
  pub query : List ℕ

-- the directory, and the names of the labels, if they were written
pub record LoadWords : Type 0 where
  pub dir : List ℕ
  pub stream_fields : Option (List ℕ)

-- the directory, and the text of the query
pub record QueryWords : Type 0 where
  pub dir : List ℕ
  pub query : List ℕ

-- what the rows are made from, and how many there are
pub record TrialWords : Type 0 where
  pub seed : ℕ
  pub rows : ℕ

-- the directory, the addresses, as they were written, and how many workers each has
pub record ServeWords : Type 0 where
  pub dir : List ℕ
  pub http : List ℕ
  pub syslog : Option (List ℕ)
  pub workers : ℕ

pub data Task : Type 0 where
  -- A query is answered over the rows of the input.
  pipes : PipeWords → Task
  -- The rows of the input are added to the vault.
  loads : LoadWords → Task
  -- A query is answered over the rows of the vault.
  asks : QueryWords → Task
  -- Rows are made, and queries are answered over them.
  tries : TrialWords → Task
  -- The doors are served over the rows of the vault.
  serves : ServeWords → Task

abbrev pub task_of : Command → Task
task_of (Pipe stream_fields query) = pipes (record { stream_fields = stream_fields; query = query })
task_of (Load dir stream_fields) = loads (record { dir = dir; stream_fields = stream_fields })
task_of (Query dir query) = asks (record { dir = dir; query = query })
task_of (Trial seed rows) = tries (record { seed = seed; rows = rows })
task_of (Serve dir http syslog workers) =
    serves (record { dir = dir; http = http; syslog = syslog; workers = workers })
