use Rattle.std.proofs.Common.{◌≡◌, chars, length}
use denote.Text.{Utf8}
use denote.Shadow.{shadow}
use Rattle.lq_lex.specs.Texts.{plain_end}
use Rattle.lq_lex.proofs.text.plain_end.Given as goal

abbrev pub invariant-characters : goal.invariant-characters
invariant-characters l = shadow (Utf8 l.rest) × (plain_end l.quote (chars l.rest) ≡ plain_end l.quote (chars l.fn.text))

abbrev pub decreases-characters : goal.decreases-characters
decreases-characters l = length l.rest
