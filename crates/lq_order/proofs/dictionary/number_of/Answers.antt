use Rattle.std.proofs.Common.{arith}
use Rattle.std.proofs.lemmas.Map.Text.{text_keys}
use Rattle.lq_order.proofs.dictionary.number_of.Goals as goal

pub returns-clause-given : goal.returns-clause-given
returns-clause-given c = λ other. grind (arith, text_keys)
