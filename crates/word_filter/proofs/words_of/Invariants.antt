use Rattle.std.proofs.Common.{◌≡◌, ◌≤◌, length, map, take}
use Rattle.std.specs.Prelude.{sum_by}
use Rattle.std.specs.List.{All}
use Rattle.block_model.specs.Distinct.{distinct}
use Rattle.token_bloom.specs.Bits.{fnv}
use Rattle.word_filter.specs.Words.{Remembers, column_words}
use Rattle.word_filter.proofs.words_of.Given as goal

abbrev pub invariant-loop-value : goal.invariant-loop-value
invariant-loop-value l = record {
  words : distinct (map (λ w. w.1.now) l.words.items) ≡ column_words (map (λ t. t.now) (take l.value-index l.values));
  few : length (distinct (map (λ w. w.1.now) l.words.items)) ≤ sum_by (λ t. length t.now) (take l.value-index l.values);
  recent : Remembers (map (λ w. w.1.now) l.words.items) l.recent;
  hashes : All (λ w. w.0 ≡ fnv w.1.now) l.words.items;
}
