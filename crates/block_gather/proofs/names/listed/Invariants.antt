use Rattle.std.proofs.Common.{◌≡◌, ◌++◌, map}
use Rattle.block_gather.proofs.names.listed.Given as goal

abbrev pub invariant-loop-name : goal.invariant-loop-name
invariant-loop-name l = map (λ t. t.now) l.names.items ++ map (λ t. t.now) l.name-iterator ≡ map (λ t. t.now) l.set.keys
