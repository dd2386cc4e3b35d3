use Rattle.std.proofs.Common.{◌∙◌, [], ℕ, List, Bor, ap, arith, get_or, length}
use Rattle.std.proofs.lemmas.List.Sums.{sum_by_more}
use Rattle.word_filter.specs.Words.{put_words}
use Rattle.word_filter.proofs.Sets.{text_of}
use Rattle.word_filter.proofs.WordLaws.{column-more}
use Rattle.word_filter.proofs.words_of.Goals as goal

abbrev blank : Bor (List ℕ)
blank = record { ref_ptr = (0, 0); now = [] }

pub loop-value-preserved : goal.loop-value-preserved
loop-value-preserved c =
    record {
      words = c.in_ok-put_words.ensures.words
          ∙ ap (λ texts. put_words texts (get_or c.args.values.now c.loop-value.value-index blank).now) c.loop-value.invariant.words
          ∙ column-more text_of c.args.values.now c.loop-value.value-index blank c.loop-value-test.true;
      few = omega (
        arith,
        c.in_ok-put_words.ensures.few,
        c.loop-value.invariant.few,
        sum_by_more (λ (t : Bor (List ℕ)). length t.now) c.args.values.now c.loop-value.value-index blank
            c.loop-value-test.true,
      );
      recent = c.in_ok-put_words.ensures.recent;
      hashes = c.in_ok-put_words.ensures.hashes;
    }
