use Rattle.std.proofs.Common.{◌≡◌, chars, length}
use denote.Text.{Utf8}
use denote.Shadow.{shadow}
use Rattle.lq_lex.specs.Reading.{bare_end}
use Rattle.lq_lex.proofs.scan.bare_end.Given as goal

abbrev pub invariant-characters : goal.invariant-characters
invariant-characters l = shadow (Utf8 l.rest) × (bare_end (chars l.rest) ≡ bare_end (chars l.fn.text))

abbrev pub decreases-characters : goal.decreases-characters
decreases-characters l = length l.rest
