-- The values of escape sequences and brackets.
use Rattle.log_model.specs.Token.{Character, short, unicode}
use Rattle.log_model.specs.Value.{Kind, array, object}
use Rattle.jsonline_in_plain.specs.declared.escape.Escape.{Escape}
use Rattle.jsonline_in_plain.specs.declared.escape.Escape.TheVariants as escapes
use Rattle.jsonline_in_plain.specs.declared.tokens.Bracket.{Bracket}
use Rattle.jsonline_in_plain.specs.declared.tokens.Bracket.TheVariants as brackets

abbrev pub escape_of : Escape → Character
escape_of (escapes.Short byte) = short byte
escape_of (escapes.Unicode a b c d) = unicode a b c d

abbrev pub kind_of : Bracket → Kind
kind_of brackets.Square = array
kind_of brackets.Curly = object
