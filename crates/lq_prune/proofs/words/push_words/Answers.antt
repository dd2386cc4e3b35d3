use Rattle.std.proofs.Common.{◌∙◌, refl}
use Rattle.word_filter.proofs.WordLaws.{are-words}
use Rattle.lq_prune.proofs.words.push_words.Goals as goal

pub loop-start-init : goal.loop-start-init
loop-start-init c =
    rw (c.into_iter-start-iterator.ensures.into_iter_gives ∙ c.words-start-items.ensures)
    (record { words = are-words c.content_of-content.result.now; so_far = refl })
