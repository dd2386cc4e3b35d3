-- The error text of a query that is not run.
use Rattle.std.specs.Prelude.{◌≡◌, ◌≢◌, ◌⊎◌, ℕ, List, []}
use Rattle.vl_io.specs.Change.{Change, IsTold}
use Rattle.lone_desk.specs.QueryRefusal.{QueryRefusal}
use Rattle.lone_desk.specs.QueryRefusal.TheVariants as refusals
use Rattle.vl_pipe.specs.Program.{no_memory, refusal_text, said_of_query, stop_text, unreadable_pattern, unspelled}
use Rattle.vl_status.specs.declared.status.Status.{Status}
use Rattle.vl_status.specs.declared.status.Status.TheVariants as statuses

-- the line for the error stream
abbrev pub said_of : QueryRefusal → List ℕ
said_of (refusals.Unspelled fault) = said_of_query (refusal_text (unspelled fault))
said_of (refusals.Pattern nth) = said_of_query (refusal_text (unreadable_pattern nth))
said_of refusals.Memory = stop_text no_memory

-- The error text, and its status.
abbrev pub ReportsRefused : Change → QueryRefusal → Status → Type 0
ReportsRefused errors refusal status =
    ((status ≡ statuses.QueryRefused) × (refusal ≢ refusals.Memory) × IsTold errors [] (said_of refusal))
    ⊎ ((status ≡ statuses.NoMemory) × IsTold errors [] (stop_text no_memory))
