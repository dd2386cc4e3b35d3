use Rattle.std.proofs.Common.{map, take, drop}
use Rattle.part_store.specs.State.{day_part_of, listed_of}
use Rattle.merge_plan.specs.Grouping.{IsGrouped}
use Rattle.merge_plan.proofs.group.grouped.Given as goal

abbrev pub invariant-loop-piece : goal.invariant-loop-piece
invariant-loop-piece l = IsGrouped (map listed_of l.stored) (take l.piece-index (map day_part_of l.pieces))
    (drop l.piece-index (map day_part_of l.pieces)) l.groups.files.items l.groups.jobs.items
