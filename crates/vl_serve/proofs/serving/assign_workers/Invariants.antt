use Rattle.std.proofs.Common.{◌≡◌, ◌+◌, ◌≤◌, ◌++◌, map, length, vec_capacity, vec_len}
use Rattle.std.specs.List.{AllByRecursion}
use Rattle.std.specs.Vec.Iter.{into_iter_items}
use Rattle.log_desk.specs.Passes.{IsPassOf, StaysAtSplit}
use Rattle.vl_serve.specs.Workers.{IsOfDesk}
use Rattle.vl_serve.proofs.serving.assign_workers.Given as goal

abbrev pub invariant-loop-door : goal.invariant-loop-door
invariant-loop-door g l =
    (goal.iterator-loop-door g).can_next l.door-iterator
    × (goal.iterator-loop-door g).is_finite l.door-iterator
    × (map (λ worker. worker.door) l.workers.items ++ into_iter_items l.door-iterator
    ≡ into_iter_items l.initial.door-iterator)
    × (vec_len l.workers + length (into_iter_items l.door-iterator) ≤ vec_capacity l.workers)
    × AllByRecursion (IsOfDesk l.desk) l.workers.items
    × IsPassOf l.desk l.pass
    × StaysAtSplit l.initial.pass l.pass
