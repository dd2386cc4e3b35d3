use Rattle.std.proofs.Common.{◌≡◌, ◌++◌}
use Rattle.word_filter.specs.Words.{words_in}
use Rattle.word_filter.proofs.WordLaws.{AreWords}
use Rattle.lq_prune.proofs.WordLaws.{texts_at}
use Rattle.lq_prune.proofs.words.push_words.Given as goal

abbrev pub invariant-loop-start : goal.invariant-loop-start
invariant-loop-start l = record {
  words : AreWords l.content l.start-iterator;
  so_far : l.found.items ++ texts_at l.content l.start-iterator ≡ l.initial.found.items ++ words_in l.content;
}
