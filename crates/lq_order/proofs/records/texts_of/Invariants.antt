use Rattle.std.proofs.Common.{◌≡◌, map, take}
use Rattle.lq_order.proofs.records.texts_of.Given as goal

abbrev pub invariant-loop-name : goal.invariant-loop-name
invariant-loop-name l = map (λ text. text.now) l.texts.items ≡ take l.name-index l.names
