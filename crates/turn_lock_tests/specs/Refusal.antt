-- Why a number was not pushed.
use Rattle.std.specs.Prelude.{◌≡◌, ℕ, ◌+◌, ◌<◌}
use Rattle.turn_lock_tests.specs.declared.log.PushFault.{PushFault}
use Rattle.turn_lock_tests.specs.declared.log.PushFault.TheVariants.{Full, Memory}
use Rattle.turn_lock_tests.specs.Room.{room}

-- of count numbers the first n are settled, and the log is full exactly where no room is left
abbrev pub Refuses : PushFault → ℕ → ℕ → Type 0
Refuses (Full held) count settled = (count ≡ settled + room) × (held ≡ room)
Refuses Memory count settled = count < settled + room
