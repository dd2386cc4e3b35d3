use Rattle.std.proofs.Common.{◌≡◌, map, take}
use Rattle.matching_rows.specs.Found.{row_there}
use Rattle.matching_rows.proofs.matching.rows_found.Given as goal

abbrev pub invariant-loop-one : goal.invariant-loop-one
invariant-loop-one l =
    map (λ row. row.numbered) l.rows.items ≡ map (row_there l.opened) (take l.one-index l.found)
