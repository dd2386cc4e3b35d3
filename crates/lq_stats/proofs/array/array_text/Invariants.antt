use Rattle.std.proofs.Common.{◌≡◌, ◌++◌, length, map, string_bytes}
use Rattle.lq_stats.proofs.Arrays.{later_items}
use Rattle.lq_stats.proofs.array.array_text.Given as goal

abbrev pub invariant-loop-left : goal.invariant-loop-left
invariant-loop-left l =
    string_bytes l.text ++ later_items (map (λ text. text.now) l.left)
    ≡ string_bytes l.initial.text ++ later_items (map (λ text. text.now) l.initial.left)

abbrev pub decreases-loop-left : goal.decreases-loop-left
decreases-loop-left l = length l.left
