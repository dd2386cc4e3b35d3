use Rattle.std.proofs.Common.{◌≡◌, map, vec_len}
use Rattle.vl_io.specs.Adapters.{kind_of}
use Rattle.duvonka.specs.Workers.{all_http}
use Rattle.duvonka.proofs.doors_for_pages.Given as goal

abbrev pub invariant-loop : goal.invariant-loop
invariant-loop l = (map kind_of l.doors.items ≡ all_http l.counter) × (vec_len l.doors ≡ l.counter)
