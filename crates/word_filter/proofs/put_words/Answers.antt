use Rattle.std.proofs.Common.{◌≡◌, ◌∙◌, ◌∷◌, ℕ, List, length, map, refl, ap, arith}
use Rattle.std.specs.BTreeSet.{insert_key}
use Rattle.std.specs.List.{fold, slice_range}
use Rattle.block_model.specs.Distinct.{distinct}
use Rattle.log_model.specs.Field.{bytes_cmp}
use Rattle.word_filter.specs.Words.{put_words}
use Rattle.word_filter.proofs.Sorted.{text_in}
use Rattle.word_filter.proofs.WordLaws.{AreWords, are-words, few-put, filled-word, texts_at}
use Rattle.word_filter.proofs.put_words.Goals as goal

pub loop-start-init : goal.loop-start-init
loop-start-init c =
    let all = c.into_iter-start-iterator.ensures.into_iter_gives ∙ c.words-start-items.ensures in
    rw all (record {
      words = are-words c.args.value.now;
      so_far = refl;
      recent = c.requires.recent;
      hashes = c.requires.hashes;
    })

pub put_word-requires-clause-some : goal.put_word-requires-clause-some
put_word-requires-clause-some c =
    let words : AreWords c.args.value.now ((c.in-Some.start, c.in-Some.end) ∷ c.next.new.self) =
    rw c.in-Some.ensures.steps at c.loop-start.invariant.words in
    filled-word c.args.value.now c.in-Some.start c.in-Some.end c.range.result.now words.0 c.range.ensures.value

pub loop-start-preserved : goal.loop-start-preserved
loop-start-preserved c =
    let words : AreWords c.args.value.now ((c.in-Some.start, c.in-Some.end) ∷ c.next.new.self) =
    rw c.in-Some.ensures.steps at c.loop-start.invariant.words in
    let so_far = rw c.in-Some.ensures.steps at c.loop-start.invariant.so_far in
    let put : distinct (map text_in c.put_word.new.all.items) ≡ insert_key bytes_cmp (distinct (map text_in
    c.loop-start.all.items))
    (slice_range c.args.value.now c.in-Some.start c.in-Some.end) = c.in_ok-put_word.ensures.words
    ∙ ap (insert_key bytes_cmp (distinct (map text_in c.loop-start.all.items))) c.range.ensures.value in
    record {
      words = words.1;
      so_far = ap (λ (l : List (List ℕ)). fold (insert_key bytes_cmp) l (texts_at c.args.value.now c.next.new.self)) put
          ∙ so_far;
      recent = c.in_ok-put_word.ensures.recent;
      hashes = c.in_ok-put_word.ensures.hashes;
    }

pub returns-clause-words : goal.returns-clause-words
returns-clause-words c =
    let so_far : distinct (map text_in c.loop-start.all.items) ≡ put_words (distinct (map text_in c.args.all.now.items))
    c.args.value.now = rw c.in-None.ensures.steps.0 at c.loop-start.invariant.so_far in
    so_far

pub returns-clause-few : goal.returns-clause-few
returns-clause-few c =
    let so_far : distinct (map text_in c.loop-start.all.items) ≡ put_words (distinct (map text_in c.args.all.now.items))
    c.args.value.now = rw c.in-None.ensures.steps.0 at c.loop-start.invariant.so_far in
    omega (
      arith,
      ap length so_far,
      few-put (distinct (map text_in c.args.all.now.items)) c.args.value.now c.utf8.value,
    )
