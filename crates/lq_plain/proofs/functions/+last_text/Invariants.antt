use Rattle.std.proofs.Common.{length}
use Rattle.lq_plain.proofs.functions.+last_text.Given as goal

abbrev pub decreases-last_text : goal.decreases-last_text
decreases-last_text l = length l.texts.now
