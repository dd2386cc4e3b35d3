use Rattle.std.proofs.Common.{◌≡◌, ◌++◌}
use Rattle.word_filter.proofs.WordLaws.{AreWords}
use Rattle.lq_prune.specs.Need.{ended_words}
use Rattle.lq_prune.proofs.WordLaws.{ended_at}
use Rattle.lq_prune.proofs.words.ended_words.Given as goal

abbrev pub invariant-loop-start : goal.invariant-loop-start
invariant-loop-start l = record {
  words : AreWords l.content l.start-iterator;
  so_far : l.found.items ++ ended_at l.content l.start-iterator ≡ ended_words l.content;
}
