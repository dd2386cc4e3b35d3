use Rattle.std.proofs.Common.{◌≡◌, map, take, Some}
use Rattle.ingest_row.specs.Asked.{extras_of}
use Rattle.ingest_row.proofs.read.extras.Given as goal

abbrev pub invariant-loop-piece : goal.invariant-loop-piece
invariant-loop-piece l = extras_of (map (λ piece. piece.now) (take l.piece-index l.piece-items)) ≡ Some l.fields.items
