use Rattle.std.proofs.Common.{◌≡◌, map, take}
use Rattle.ingest_row.proofs.read.names.Given as goal

abbrev pub invariant-loop-piece : goal.invariant-loop-piece
invariant-loop-piece l = l.names.items ≡ map (λ piece. piece.now) (take l.piece-index l.piece-items)
