use Rattle.std.proofs.Common.{◌≡◌, ◌*◌, map, vec_len}
use Rattle.vl_io.specs.Adapters.{kind_of}
use Rattle.duvonka.specs.Workers.{in_turn}
use Rattle.duvonka.proofs.doors_in_turn.Given as goal

abbrev pub invariant-loop : goal.invariant-loop
invariant-loop l = (map kind_of l.doors.items ≡ in_turn l.counter) × (vec_len l.doors ≡ 2 * l.counter)
