use Rattle.std.proofs.Common.{◌≡◌, ◌≤◌, length, drop}
use Rattle.lq_ast.specs.Phrases.{in_order}
use Rattle.lq_filter.proofs.value.are_in_order.Given as goal

abbrev pub invariant-loop-phrase : goal.invariant-loop-phrase
invariant-loop-phrase l =
    (l.from ≤ length l.value) × (in_order l.value l.from (drop l.phrase-index l.phrases) ≡ in_order l.value 0 l.phrases)
