use Rattle.std.proofs.Common.{◌≡◌, ◌∙◌, ◌∷◌, ℕ, List, map, refl, ap, rules, true}
use Rattle.std.specs.BTreeSet.{insert_key}
use Rattle.std.specs.List.{fold, slice_range}
use Rattle.block_model.specs.Distinct.{distinct}
use Rattle.log_model.specs.Field.{bytes_cmp}
use Rattle.word_filter.proofs.Sorted.{text_in}
use Rattle.word_filter.proofs.WordLaws.{AreWords, are-words, texts_at}
use Rattle.word_filter.proofs.few.put_words.Goals as goal

pub loop-start-init : goal.loop-start-init
loop-start-init c =
    let all = c.into_iter-start-iterator.ensures.into_iter_gives ∙ c.words-start-items.ensures in
    rw all (record {
      words = are-words c.args.value.now;
      so_far = refl;
      once = c.requires.once;
      hashes = c.requires.hashes;
    })

pub loop-start-preserved : goal.loop-start-preserved
loop-start-preserved c =
    let words : AreWords c.args.value.now ((c.in-Some.start, c.in-Some.end) ∷ c.next.new.self) =
    rw c.in-Some.ensures.steps at c.loop-start.invariant.words in
    let so_far = rw c.in-Some.ensures.steps at c.loop-start.invariant.so_far in
    let yes : c.put_word.result ≡ true = search rules in
    let put : distinct (map text_in c.put_word.new.all.items) ≡ insert_key bytes_cmp (distinct (map text_in
    c.loop-start.all.items))
    (slice_range c.args.value.now c.in-Some.start c.in-Some.end) = c.put_word.ensures.words yes
    ∙ ap (insert_key bytes_cmp (distinct (map text_in c.loop-start.all.items))) c.range.ensures.value in
    record {
      words = words.1;
      so_far = ap (λ (l : List (List ℕ)). fold (insert_key bytes_cmp) l (texts_at c.args.value.now c.next.new.self)) put
          ∙ so_far;
      once = c.put_word.ensures.once;
      hashes = c.put_word.ensures.hashes;
    }
