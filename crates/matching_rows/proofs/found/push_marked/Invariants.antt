use Rattle.std.proofs.Common.{◌≡◌, ◌++◌, Bool, [], filter, get_or, map, take}
use Rattle.std.specs.List.{All}
use Rattle.log_model.specs.History.{Numbered}
use Rattle.matching_rows.specs.Found.{IsFound, row_there}
use Rattle.matching_rows.proofs.found.push_marked.Given as goal

abbrev pub invariant-loop-row : goal.invariant-loop-row
invariant-loop-row l = record {
  rows : (test : Numbered → Bool) → l.mask ≡ map test (get_or l.opened l.block [])
      → map (row_there l.opened) l.found.items ≡ map (row_there l.opened) l.initial.found.items
      ++ filter test (take l.row (get_or l.opened l.block []));
  each : All (IsFound l.opened) l.found.items;
}
