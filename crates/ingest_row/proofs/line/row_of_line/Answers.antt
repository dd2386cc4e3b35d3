use Rattle.std.proofs.Common.{FitsSigned, w64}
use Rattle.std.proofs.lemmas.Int.{to_z-of_z}
use Rattle.ingest_row.proofs.line.row_of_line.Goals as goal

pub returns-clause-only : goal.returns-clause-only
returns-clause-only c = let fits : FitsSigned w64 c.args.now = c.ranges.now in simp to_z-of_z at
    c.row_with_room.ensures.only

pub returns-clause-none : goal.returns-clause-none
returns-clause-none c = let fits : FitsSigned w64 c.args.now = c.ranges.now in simp to_z-of_z at
    c.row_with_room.ensures.none

pub returns-clause-refused : goal.returns-clause-refused
returns-clause-refused c = let fits : FitsSigned w64 c.args.now = c.ranges.now in simp to_z-of_z at
    c.row_with_room.ensures.refused
