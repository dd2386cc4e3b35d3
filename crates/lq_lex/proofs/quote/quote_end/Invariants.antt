use Rattle.std.proofs.Common.{◌≡◌, false, chars, length}
use denote.Text.{Utf8}
use denote.Shadow.{shadow}
use Rattle.lq_lex.specs.Reading.{quote_end}
use Rattle.lq_lex.proofs.quote.quote_end.Given as goal

abbrev pub invariant-characters : goal.invariant-characters
invariant-characters l = shadow (Utf8 l.rest) × (quote_end l.quote l.backslash (chars l.rest) ≡ quote_end l.quote false (chars l.fn.text))

abbrev pub decreases-characters : goal.decreases-characters
decreases-characters l = length l.rest
