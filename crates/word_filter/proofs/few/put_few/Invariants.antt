use Rattle.std.proofs.Common.{◌≡◌, map, take}
use Rattle.std.specs.Prelude.{bytes_eq}
use Rattle.std.specs.List.{All, IsDistinct}
use Rattle.block_model.specs.Distinct.{distinct}
use Rattle.token_bloom.specs.Bits.{fnv}
use Rattle.word_filter.specs.Words.{column_words}
use Rattle.word_filter.proofs.few.put_few.Given as goal

abbrev pub invariant-loop-value : goal.invariant-loop-value
invariant-loop-value l = record {
  words : distinct (map (λ w. w.1.now) l.all.items) ≡ column_words (map (λ t. t.now) (take l.value-index l.values));
  once : IsDistinct bytes_eq (map (λ w. w.1.now) l.all.items);
  hashes : All (λ w. w.0 ≡ fnv w.1.now) l.all.items;
}
