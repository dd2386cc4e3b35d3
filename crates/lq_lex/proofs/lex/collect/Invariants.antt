use Rattle.std.proofs.Common.{◌≤◌, ◌-◌, chars, length, map}
use denote.Text.{Utf8}
use denote.Shadow.{shadow}
use Rattle.lq_lex.specs.Token.{token_value}
use Rattle.lq_lex.specs.Lexing.{GoesOn}
use Rattle.lq_lex.proofs.Chains.{At}
use Rattle.lq_lex.proofs.lex.collect.Given as goal

-- the tokens so far end where the rest begins
abbrev pub invariant-others : goal.invariant-others
invariant-others l =
    shadow (Utf8 l.rest) × (length l.rest ≤ length l.text)
    × GoesOn 0 (chars l.text) (map token_value l.list.items) (At (length l.text - length l.rest) (chars l.rest))

abbrev pub decreases-others : goal.decreases-others
decreases-others l = length l.rest
