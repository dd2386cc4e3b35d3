use Rattle.std.proofs.Common.{◌≡◌, map, take}
use Rattle.block_gather.specs.Gathered.{names_in}
use Rattle.block_gather.proofs.names.name_set.Given as goal

abbrev pub invariant-loop-i : goal.invariant-loop-i
invariant-loop-i l = map (λ t. t.now) l.names.keys ≡ names_in (take l.i l.picks)
