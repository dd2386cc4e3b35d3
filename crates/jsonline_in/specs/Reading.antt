-- Reading an object of JSON from left to right. A reader gives a value and the bytes after it, or it stops.
use Rattle.std.specs.Prelude.{ℕ, zero, suc, Bool, not, List, [], ◌∷◌, length, take, drop, Option, Some, None, Result}
use Rattle.std.specs.Prelude.{Ok, Err, ◌==◌, ◌-◌, if◌then◌else◌}
use Rattle.std.specs.List.{prefix_len}
use Rattle.std.specs.Char.{is_ascii_digit, is_ascii_hexdigit}
use Rattle.log_model.specs.Json.{is_space, is_plain}
use Rattle.log_model.specs.Token.{Character, plain, short, unicode, is_short, Scalar, string, number, Literal}
use Rattle.log_model.specs.Token.{literal, truth, falsehood, null}
use Rattle.log_model.specs.Value.{Kind, array, object, closing, Label, unnamed, named, Value, scalar, nested, Items}
use Rattle.log_model.specs.Value.{nothing, item}

-- The 65th bracket would be open, or no object goes on so: then this many bytes are left.
pub data Fault : Type 0 where
  deep : Fault
  stuck : ℕ → Fault

abbrev pub Reader : Type 0 → Type 0
Reader A = List ℕ → Result (A × List ℕ) Fault

infixl 10 ◌>>=◌
abbrev pub ◌>>=◌ : {A B : Type 0} → Result A Fault → (A → Result B Fault) → Result B Fault
(Ok x) >>= f = f x
(Err fault) >>= f = Err fault

-- ---- bytes

-- a byte that ends a run of plain ones
abbrev pub is_stop : ℕ → Bool
is_stop byte = not (is_plain byte)

unfoldable pub after_space : List ℕ → List ℕ
after_space bytes = drop (prefix_len is_space bytes) bytes

-- what follows the byte, if it stands at the start
abbrev pub past : ℕ → List ℕ → Option (List ℕ)
past byte [] = None
past byte (first ∷ rest) = if first == byte then Some rest else None

-- ---- choices

abbrev pub gives : {A : Type 0} → A → Reader A
gives x bytes = Ok (x, bytes)

abbrev pub fails : {A : Type 0} → Reader A
fails bytes = Err (stuck (length bytes))

-- the first where its byte stands here, and then after it; else the second
abbrev pub chosen_by : {A : Type 0} → Reader A → Reader A → List ℕ → Option (List ℕ) → Result (A × List ℕ) Fault
chosen_by some none bytes (Some rest) = some rest
chosen_by some none bytes None = none bytes

abbrev pub chosen : {A : Type 0} → ℕ → Reader A → Reader A → Reader A
chosen byte some none bytes = chosen_by some none bytes (past byte bytes)

abbrev pub behind : {A : Type 0} → ℕ → Reader A → Reader A
behind byte some = chosen byte some fails

-- the byte itself
unfoldable pub expect : ℕ → Reader (Unit {0})
expect byte = behind byte (gives tt)

-- one byte that passes the test
unfoldable pub one_of : (ℕ → Bool) → Reader ℕ
one_of test [] = Err (stuck 0)
one_of test (byte ∷ rest) = if test byte then Ok (byte, rest) else Err (stuck (length (byte ∷ rest)))

-- ---- turns

abbrev pub turn : {A B : Type 0} → (A → B → B) → B → Reader B → Option A × List ℕ → Result (B × List ℕ) Fault
turn put end more (None, rest) = Ok (end, rest)
turn put end more (Some x, rest) = more rest >>= λ xs. Ok (put x xs.0, xs.1)

-- as long as there is one more. The number bounds the turns; one above the count of the bytes is always enough.
unfoldable pub turns : {A B : Type 0} → (A → B → B) → B → Reader (Option A) → ℕ → Reader B
turns put end one zero bytes = Err (stuck (length bytes))
turns put end one (suc fuel) bytes = one bytes >>= turn put end (turns put end one fuel)

-- ---- strings

unfoldable pub unicode_at : Reader Character
unicode_at bytes = do
  a ← one_of is_ascii_hexdigit bytes
  b ← one_of is_ascii_hexdigit a.1
  c ← one_of is_ascii_hexdigit b.1
  d ← one_of is_ascii_hexdigit c.1
  Ok (unicode a.0 b.0 c.0 d.0, d.1)

unfoldable pub short_at : Reader Character
short_at bytes = do
  byte ← one_of is_short bytes
  Ok (short byte.0, byte.1)

-- after a backslash
unfoldable pub escape_at : Reader Character
escape_at = chosen 117 unicode_at short_at

unfoldable pub plain_at : Reader Character
plain_at bytes = do
  byte ← one_of is_plain bytes
  Ok (plain byte.0, byte.1)

abbrev pub some_of : {A : Type 0} → Reader A → Reader (Option A)
some_of one bytes = one bytes >>= λ x. Ok (Some x.0, x.1)

-- the next character, or none where the string ends
unfoldable pub character_at : Reader (Option Character)
character_at = chosen 34 (gives None) (some_of (chosen 92 escape_at plain_at))

abbrev pub put_character : Character → List Character → List Character
put_character character characters = character ∷ characters

-- after the opening quotation mark
unfoldable pub characters_at : Reader (List Character)
characters_at bytes = turns put_character [] character_at (suc (length bytes)) bytes

-- ---- numbers and literals

unfoldable pub digits_end : Reader (Unit {0})
digits_end bytes =
    if prefix_len is_ascii_digit bytes == 0 then Err (stuck (length bytes))
    else Ok (tt, drop (prefix_len is_ascii_digit bytes) bytes)

unfoldable pub whole_end : Reader (Unit {0})
whole_end = chosen 48 (gives tt) digits_end

unfoldable pub fraction_end : Reader (Unit {0})
fraction_end = chosen 46 digits_end (gives tt)

unfoldable pub signed_end : Reader (Unit {0})
signed_end = chosen 43 digits_end (chosen 45 digits_end digits_end)

unfoldable pub exponent_end : Reader (Unit {0})
exponent_end = chosen 101 signed_end (chosen 69 signed_end (gives tt))

unfoldable pub unsigned_end : Reader (Unit {0})
unsigned_end bytes = do
  whole ← whole_end bytes
  fraction ← fraction_end whole.1
  exponent_end fraction.1

unfoldable pub number_end : Reader (Unit {0})
number_end = chosen 45 unsigned_end unsigned_end

abbrev pub prefix_of : List ℕ → List ℕ → List ℕ
prefix_of bytes rest = take (length bytes - length rest) bytes

unfoldable pub number_at : Reader (List ℕ)
number_at bytes = do
  end ← number_end bytes
  Ok (prefix_of bytes end.1, end.1)

abbrev pub word_end : List ℕ → Reader (Unit {0})
word_end [] bytes = Ok (tt, bytes)
word_end (letter ∷ word) bytes = expect letter bytes >>= λ x. word_end word x.1

abbrev pub made_by : {A B : Type 0} → (A → B) → Reader A → Reader B
made_by made one bytes = one bytes >>= λ x. Ok (made x.0, x.1)

abbrev pub literal_of : Literal → Reader (Unit {0}) → Reader Scalar
literal_of word end bytes = end bytes >>= λ x. Ok (literal word, x.1)

-- ---- values

unfoldable pub bare_at : Reader Scalar
bare_at =
    chosen 116 (literal_of truth (word_end (114 ∷ 117 ∷ 101 ∷ [])))
    (chosen 102 (literal_of falsehood (word_end (97 ∷ 108 ∷ 115 ∷ 101 ∷ [])))
    (chosen 110 (literal_of null (word_end (117 ∷ 108 ∷ 108 ∷ [])))
    (made_by number number_at)))

abbrev pub value_of_string : List Character → Value
value_of_string characters = scalar (string characters)

-- the value that begins here and is not an object, where inner reads on after an opening bracket
unfoldable pub flat_at : (Kind → Reader Value) → Reader Value
flat_at inner = chosen 34 (made_by value_of_string characters_at) (chosen 91 (inner array) (made_by scalar bare_at))

unfoldable pub value_at : (Kind → Reader Value) → Reader Value
value_at inner = chosen 123 (inner object) (flat_at inner)

-- the name of a member, up to its value
unfoldable pub name_at : Reader Label
name_at bytes = do
  quote ← expect 34 bytes
  name ← characters_at quote.1
  colon ← expect 58 (after_space name.1)
  Ok (named name.0, after_space colon.1)

abbrev pub label_at : Kind → Reader Label
label_at array = gives unnamed
label_at object = name_at

unfoldable pub item_at : (Kind → Reader Value) → Kind → Reader (Label × Value)
item_at inner kind bytes = do
  label ← label_at kind bytes
  value ← value_at inner label.1
  Ok ((label.0, value.0), value.1)

-- after an item: one more after a comma, or none where the bracket closes
unfoldable pub other_at : (Kind → Reader Value) → Kind → Reader (Option (Label × Value))
other_at inner kind bytes =
    chosen 44 (λ rest. some_of (item_at inner kind) (after_space rest)) (behind (closing kind) (gives None))
    (after_space bytes)

abbrev pub put_item : Label × Value → Items → Items
put_item x more = item x.0 x.1 more

unfoldable pub others_at : (Kind → Reader Value) → Kind → Reader Items
others_at inner kind bytes = turns put_item nothing (other_at inner kind) (suc (length bytes)) bytes

unfoldable pub first_at : (Kind → Reader Value) → Kind → Reader Items
first_at inner kind bytes = do
  x ← item_at inner kind bytes
  more ← others_at inner kind x.1
  Ok (put_item x.0 more.0, more.1)

-- after an opening bracket
unfoldable pub items_at : (Kind → Reader Value) → Kind → Reader Items
items_at inner kind bytes = chosen (closing kind) (gives nothing) (first_at inner kind) (after_space bytes)

-- after an opening bracket, where this many may be open
unfoldable pub nested_at : ℕ → Kind → Reader Value
nested_at zero kind bytes = Err deep
nested_at (suc depth) kind bytes = items_at (nested_at depth) kind bytes >>= λ x. Ok (nested kind x.0, x.1)

-- ---- a text

unfoldable pub end_at : Reader (Unit {0})
end_at [] = Ok (tt, [])
end_at (byte ∷ rest) = Err (stuck (length (byte ∷ rest)))

-- the members of the object that is all of the text, after white space and its opening brace
unfoldable pub text_at : Reader Items
text_at bytes = do
  members ← items_at (nested_at 63) object bytes
  end ← end_at (after_space members.1)
  Ok (members.0, end.1)
