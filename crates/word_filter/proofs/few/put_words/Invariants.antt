use Rattle.std.proofs.Common.{◌≡◌, map}
use Rattle.std.specs.Prelude.{bytes_eq}
use Rattle.std.specs.BTreeSet.{insert_key}
use Rattle.std.specs.List.{All, IsDistinct, fold}
use Rattle.block_model.specs.Distinct.{distinct}
use Rattle.log_model.specs.Field.{bytes_cmp}
use Rattle.token_bloom.specs.Bits.{fnv}
use Rattle.word_filter.specs.Words.{put_words}
use Rattle.word_filter.proofs.WordLaws.{AreWords, texts_at}
use Rattle.word_filter.proofs.few.put_words.Given as goal

abbrev pub invariant-loop-start : goal.invariant-loop-start
invariant-loop-start l = record {
  words : AreWords l.value l.start-iterator;
  so_far : fold (insert_key bytes_cmp) (distinct (map (λ w. w.1.now) l.all.items)) (texts_at l.value l.start-iterator)
      ≡ put_words (distinct (map (λ w. w.1.now) l.initial.all.items)) l.value;
  once : IsDistinct bytes_eq (map (λ w. w.1.now) l.all.items);
  hashes : All (λ w. w.0 ≡ fnv w.1.now) l.all.items;
}
