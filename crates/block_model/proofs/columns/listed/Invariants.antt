use Rattle.std.proofs.Common.{◌≡◌, ◌++◌, map}
use Rattle.block_model.proofs.columns.listed.Given as goal

abbrev pub invariant-loop-name : goal.invariant-loop-name
invariant-loop-name l = l.texts.items ++ map (λ t. t.now) l.name-iterator ≡ map (λ t. t.now) l.names.keys
