use Rattle.std.proofs.Common.{◌≡◌, map, take}
use Rattle.block_model.specs.Distinct.{text_at}
use Rattle.block_column.proofs.row_texts.coded_texts.Given as goal

abbrev pub invariant-loop-i : goal.invariant-loop-i
invariant-loop-i l = map (λ t. t.now) l.lent.items ≡ map (text_at l.texts) (take l.i l.codes)
