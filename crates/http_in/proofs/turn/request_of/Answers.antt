use Rattle.std.proofs.Common.{subst, sym}
use Rattle.std.specs.Prelude.{IsUtf8}
use Rattle.http_in.proofs.HeadLemmas.{method_text}
use Rattle.http_in.proofs.turn.request_of.Goals as goal

pub text_of-method-requires : goal.text_of-method-requires
text_of-method-requires c = subst IsUtf8 (sym c.of.ensures) (method_text c.args.bytes.now c.args.head c.requires)
