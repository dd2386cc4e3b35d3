use Rattle.std.proofs.Common.{◌∙◌, ap, arith, length, map}
use Rattle.word_filter.proofs.Sets.{same-distinct}
use Rattle.word_filter.proofs.Sorted.{text_in}
use Rattle.word_filter.proofs.distinct_words.Goals as goal

pub returns-clause-words : goal.returns-clause-words
returns-clause-words c =
    same-distinct (map text_in c.keep_once.new.words.items) (map text_in c.in_ok-words.words.items)
    c.keep_once.ensures.same
    ∙ c.in_ok-words.ensures.words

pub returns-clause-few : goal.returns-clause-few
returns-clause-few c =
    omega (arith, ap length (returns-clause-words c), ap length c.in_ok-words.ensures.words, c.in_ok-words.ensures.few)
