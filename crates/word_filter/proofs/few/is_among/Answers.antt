use Rattle.std.proofs.Common.{◌∙◌}
use Rattle.word_filter.proofs.FewLaws.{sought-by-hash}
use Rattle.word_filter.proofs.few.is_among.Goals as goal

pub returns : goal.returns
returns c =
    c.has_pair.ensures ∙ sought-by-hash c.args.hash c.args.word.now c.args.words.now c.requires.hash c.requires.hashes
