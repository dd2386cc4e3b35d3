use Rattle.std.proofs.Common.{◌≡◌, map, take}
use Rattle.lent_row.specs.Cells.{value_text}
use Rattle.block_gather.proofs.texts.texts_of.Given as goal

abbrev pub invariant-loop-i : goal.invariant-loop-i
invariant-loop-i l = map (λ t. t.now) l.texts.items ≡ map value_text (take l.i l.values)
