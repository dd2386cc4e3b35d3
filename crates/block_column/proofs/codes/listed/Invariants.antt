use Rattle.std.proofs.Common.{◌≡◌, ◌++◌, map}
use Rattle.block_column.proofs.codes.listed.Given as goal

abbrev pub invariant-loop-text : goal.invariant-loop-text
invariant-loop-text l = l.texts.items ++ map (λ t. t.now) l.text-iterator ≡ map (λ t. t.now) l.set.keys
