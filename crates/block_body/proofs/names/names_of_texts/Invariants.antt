use Rattle.std.proofs.Common.{◌≡◌, take}
use Rattle.block_body.proofs.names.names_of_texts.Given as goal

abbrev pub invariant-loop-text : goal.invariant-loop-text
invariant-loop-text l = l.names.items ≡ take l.text-index l.texts
