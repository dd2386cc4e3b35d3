use Rattle.word_filter.proofs.Kept.{leaves_none_out}
use Rattle.word_filter.proofs.filter_law.Goals as goal

pub returns : goal.returns
returns c = leaves_none_out
