use Rattle.std.proofs.lemmas.Str.{is_utf8-from_IsUtf8}
use Rattle.lq_prune.proofs.words.content_of.Goals as goal

pub returns-clause-utf8 : goal.returns-clause-utf8
returns-clause-utf8 c = is_utf8-from_IsUtf8 c.args.text.now c.as_str.ensures.utf8
