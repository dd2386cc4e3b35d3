use Rattle.std.proofs.Common.{[], get_or, ◌∙◌, ap}
use Rattle.token_bloom.specs.Filter.{with_hash}
use Rattle.word_filter.proofs.Sorted.{Hashed, add-more}
use Rattle.word_filter.proofs.add_words.Goals as goal

abbrev blank : Hashed
blank = (0, record { ref_ptr = (0, 0); now = [] })

pub loop-word-preserved : goal.loop-word-preserved
loop-word-preserved c =
    c.add_hash.ensures
    ∙ ap (λ filter. with_hash filter (get_or c.args.words.now c.loop-word.word-index blank).0) c.loop-word.invariant
    ∙ add-more c.args.bloom.now c.args.words.now c.loop-word.word-index blank c.loop-word-test.true c.requires.hashes
