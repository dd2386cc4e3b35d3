use Rattle.std.proofs.Common.{◌≡◌, ◌<◌, ◌++◌, length, map}
use Rattle.std.specs.List.{AllByRecursion}
use Rattle.day_parts.specs.declared.splitting.DayPart.{DayPart}
use Rattle.part_store.specs.State.{day_part_of}
use Rattle.merge_plan.specs.Grouping.{split_rows}
use Rattle.merge_plan.proofs.pieces.push_pieces.Given as goal

abbrev pub invariant-loop-day : goal.invariant-loop-day
invariant-loop-day l =
    (map day_part_of l.pieces.items ≡ map day_part_of l.initial.pieces.items ++ map split_rows l.yielded)
    × AllByRecursion (λ (d : DayPart). 0 < length d.part) l.yielded
