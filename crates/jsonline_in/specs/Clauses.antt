-- What a scanner of objects answers, in the words of its reader.
use Rattle.std.specs.Prelude.{◌≡◌, ℕ, List, [], flat_map, Option, Some, None, Result, Ok, Err, IsUtf8}
use Rattle.log_model.specs.Token.{Character, short, unicode, scalar_text}
use Rattle.jsonline_in.specs.Near.{Noted, note_all}
use Rattle.log_model.specs.Value.{Kind, array, object, Value, scalar, nested, tokens, value_fields}
use Rattle.jsonline_in.specs.Reading.{Fault, deep, stuck, ◌>>=◌, after_space, past, text_at}
use Rattle.jsonline_in.specs.declared.scan_fault.ScanFault.{ScanFault}
use Rattle.jsonline_in.specs.declared.scan_fault.ScanFault.TheVariants.{TooDeep, Stuck, Memory}
use Rattle.jsonline_in.specs.declared.escape.Escape.{Escape}
use Rattle.jsonline_in.specs.declared.escape.Escape.TheVariants as escapes
use Rattle.jsonline_in.specs.declared.copy.Bracket.{Bracket}
use Rattle.jsonline_in.specs.declared.copy.Bracket.TheVariants as brackets

-- why a scanner stopped, and why reading does
abbrev pub Fails : {Y : Type 0} → ScanFault → Result Y Fault → Type 0
Fails TooDeep read = read ≡ Err deep
Fails (Stuck left) read = read ≡ Err (stuck left)
Fails Memory read = Unit {0}

-- What was returned, seen by view, is what reading gives, unless memory ran out.
abbrev pub ReadsAs : {X Y : Type 0} → (X → Y) → Result X ScanFault → Result Y Fault → Type 0
ReadsAs view (Ok x) read = read ≡ Ok (view x)
ReadsAs view (Err stop) read = Fails stop read

-- what becomes of the value that was read
abbrev pub mapped : {A B : Type 0} → (A → B) → Result (A × List ℕ) Fault → Result (B × List ℕ) Fault
mapped made read = read >>= λ x. Ok (made x.0, x.1)

-- what stands after the opening brace of a line
pub record Opens (line inside : List ℕ) : Type 0 where
  pub utf8 : IsUtf8 line
  pub brace : past 123 (after_space line) ≡ Some inside

-- Reading stops so after the opening brace.
pub record StopsIn (stop : ScanFault) (line : List ℕ) : Type 0 where
  pub inside : List ℕ
  pub opens : Opens line inside
  pub fails : Fails stop (text_at inside)

abbrev pub escape_of : Escape → Character
escape_of (escapes.Short byte) = short byte
escape_of (escapes.Unicode a b c d) = unicode a b c d

abbrev pub kind_of : Bracket → Kind
kind_of brackets.Square = array
kind_of brackets.Curly = object

-- a text that may be borrowed
abbrev pub or_empty : Option (List ℕ) → List ℕ
or_empty None = []
or_empty (Some text) = text

-- a text that is borrowed, or else in the buffer
abbrev pub or_kept : Option (List ℕ) → List ℕ → List ℕ
or_kept None kept = kept
or_kept (Some text) kept = text

-- the tokens of a value with nothing between them
abbrev pub compact : List (List ℕ) → List ℕ
compact tokens = flat_map (λ token. token) tokens

-- the text of a value that is not an object
abbrev pub flat_text : Value → List ℕ
flat_text (scalar token) = scalar_text token
flat_text (nested kind items) = compact (tokens (nested kind items))

-- what is noted once the fields of the value of this name are set
abbrev pub value_set : Noted → List ℕ → Value → Noted
value_set old name value = note_all old (value_fields name value)
