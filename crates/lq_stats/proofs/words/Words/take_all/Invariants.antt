use Rattle.std.proofs.Common.{List, ℕ, length}
use Rattle.lq_stats.proofs.Wording.{AreWordsBehind}
use Rattle.lq_stats.specs.Words.{AreWords}
use Rattle.lq_stats.proofs.words.Words.take_all.Given as goal

abbrev pub invariant-loop-word : goal.invariant-loop-word
invariant-loop-word l =
    (texts : List (List ℕ)) → AreWords l.initial.self texts
    → AreWordsBehind l.self texts l.initial.words.items l.words.items

abbrev pub decreases-loop-word : goal.decreases-loop-word
decreases-loop-word l = length l.words.items
