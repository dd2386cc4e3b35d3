use Rattle.lq_plain.proofs.Splitting.{StandsLater}
use Rattle.lq_plain.proofs.extract.split_once.Given as goal

abbrev pub invariant-loop-place : goal.invariant-loop-place
invariant-loop-place l = StandsLater l.text l.value l.place
