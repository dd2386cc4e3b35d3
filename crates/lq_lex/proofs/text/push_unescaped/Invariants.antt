use Rattle.std.proofs.Common.{◌≡◌, ◌++◌, chars, length}
use denote.Text.{Utf8}
use denote.Shadow.{shadow}
use Rattle.std.specs.Str.{encode_utf8_all}
use Rattle.lq_lex.specs.Texts.{unescape}
use Rattle.lq_lex.proofs.text.push_unescaped.Given as goal

-- what was appended, and what the rest stands for
abbrev pub invariant-escapes : goal.invariant-escapes
invariant-escapes l =
    shadow (Utf8 l.rest) × (l.out ++ encode_utf8_all (unescape l.quote (chars l.rest)) ≡ l.fn.out ++ encode_utf8_all (unescape l.quote (chars l.fn.text)))

abbrev pub decreases-escapes : goal.decreases-escapes
decreases-escapes l = length l.rest
