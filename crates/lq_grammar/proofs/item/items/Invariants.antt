use Rattle.std.proofs.Common.{◌≡◌, map, take}
use Rattle.lq_grammar.specs.Items.{item_of}
use Rattle.lq_grammar.proofs.item.items.Given as goal

abbrev pub invariant-loop-i : goal.invariant-loop-i
invariant-loop-i l = l.list.items ≡ map item_of (take l.i l.tokens)
