use Rattle.lq_prune.specs.Need.{column_word}
use Rattle.lq_prune.proofs.Lists.{all-list}
use Rattle.lq_prune.proofs.admitting.has_words.Goals as goal

pub loop-word-init : goal.loop-word-init
loop-word-init c = all-list (column_word c.args.name.now) c.args.head.now c.args.words.now
