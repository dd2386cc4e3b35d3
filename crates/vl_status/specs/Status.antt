-- Exit statuses as numbers, and the message when memory runs out.
use Rattle.std.specs.Prelude.{ℕ, List, [], ◌++◌, ◌∷◌, codes}
use Rattle.vl_status.specs.declared.status.Status.{Status}
use Rattle.vl_status.specs.declared.status.Status.TheVariants.{Done, QueryRefused, Usage, ReadFault, WriteFault, Limit}
use Rattle.vl_status.specs.declared.status.Status.TheVariants.{VaultFault, Damaged, DoorFault, NoMemory}

abbrev pub status_number : Status → ℕ
status_number Done = 0
status_number QueryRefused = 1
status_number Usage = 2
status_number ReadFault = 3
status_number WriteFault = 4
status_number VaultFault = 5
status_number Damaged = 6
status_number DoorFault = 7
status_number Limit = 8
status_number NoMemory = 9

-- the message when memory runs out
abbrev pub no_memory_text : List ℕ
no_memory_text = codes "no memory" ++ 10 ∷ []
