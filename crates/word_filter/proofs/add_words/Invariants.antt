use Rattle.std.proofs.Common.{◌≡◌, map, take}
use Rattle.std.specs.List.{fold}
use Rattle.token_bloom.specs.Filter.{with_word}
use Rattle.word_filter.proofs.add_words.Given as goal

abbrev pub invariant-loop-word : goal.invariant-loop-word
invariant-loop-word l =
    l.bloom ≡ fold with_word l.initial.bloom (map (λ w. w.1.now) (take l.word-index l.words))
