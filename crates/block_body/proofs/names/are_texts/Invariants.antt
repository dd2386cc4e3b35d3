use Rattle.std.proofs.Common.{◌≡◌, map, take}
use Rattle.block_body.proofs.names.are_texts.Given as goal

abbrev pub invariant-loop-i : goal.invariant-loop-i
invariant-loop-i l = take l.i l.names ≡ map (λ t. t.now) (take l.i l.texts)
