use Rattle.std.proofs.Common.{◌≡◌, drop}
use Rattle.ingest_row.specs.Asked.{argument}
use Rattle.ingest_row.proofs.read.argument.Given as goal

abbrev pub invariant-loop-pair : goal.invariant-loop-pair
invariant-loop-pair l = argument (drop l.pair-index l.pairs) l.name ≡ argument l.pairs l.name
