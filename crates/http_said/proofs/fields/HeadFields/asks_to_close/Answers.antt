use Rattle.std.proofs.Common.{◌∙◌}
use Rattle.http_said.proofs.FieldLemmas.{closes_as_asked}
use Rattle.http_said.proofs.fields.HeadFields.asks_to_close.Goals as goal

pub returns : goal.returns
returns c fields is = c.closes.ensures ∙ closes_as_asked c.args.self.now fields c.args.minor is
