-- The lexical grammar of queries (LogsQL, "Query syntax"). A text is the list of its characters.
use Rattle.std.specs.Prelude.{◌≡◌, ℕ, ◌+◌, ◌<◌, ◌≤◌, Bool, false, not, ◌&&◌, ◌||◌, ◌==◌, List, [], ◌∷◌, ◌++◌, length}
use Rattle.std.specs.Prelude.{flat_map, codes, chars, IsTrue, Result, Ok, Err, if◌then◌else◌}
use Rattle.std.specs.List.{list_all, list_any}
use Rattle.std.specs.Char.{is_whitespace}
use Rattle.std.specs.Str.{encode_utf8_all}
use Rattle.vl_row.specs.Field.{is_empty}
use Rattle.vl_row.specs.Words.{is_word_char}
use Rattle.lq_lex.specs.declared.token.Kind.{Kind}
use Rattle.lq_lex.specs.declared.token.Kind.TheVariants.{Bare, Quoted, Mark}
use Rattle.lq_lex.specs.declared.fault.LexFault.{LexFault}
use Rattle.lq_lex.specs.declared.fault.LexFault.TheVariants.{TooLong, OpenQuote, BadEscape, BadChar, Memory}
use Rattle.lq_lex.specs.Token.{Token}

-- the length of the characters in bytes
abbrev pub width : List ℕ → ℕ
width cs = length (encode_utf8_all cs)

-- ---- character classes

-- | ( ) [ ] { } , : = ! ~ * < > - +
abbrev pub is_mark : ℕ → Bool
is_mark c = list_any (λ mark. mark == c) (codes "|()[]{},:=!~*<>-+")

-- a word character, . or /
abbrev pub begins_bare : ℕ → Bool
begins_bare c = is_word_char c || ((c == 46) || (c == 47))

-- the same, or -
abbrev pub continues_bare : ℕ → Bool
continues_bare c = begins_bare c || (c == 45)

-- ", ' or a backtick
abbrev pub is_quote : ℕ → Bool
is_quote c = (c == 34) || ((c == 39) || (c == 96))

-- whether the first character is in the class
abbrev pub begins : (ℕ → Bool) → List ℕ → Bool
begins test [] = false
begins test (c ∷ cs) = test c

-- ---- quoted strings

-- a character, or a backslash and a character
pub data Piece : Type 0 where
  plain : ℕ → Piece
  escape : ℕ → Piece

-- whether `c` escapes the next character; inside backticks a backslash is an ordinary character
abbrev pub is_backslash : ℕ → ℕ → Bool
is_backslash quote c = (c == 92) && not (quote == 96)

-- \ " ' n r t
abbrev pub is_escape : ℕ → Bool
is_escape c = (c == 92) || ((c == 34) || ((c == 39) || ((c == 110) || ((c == 114) || (c == 116)))))

-- what is allowed inside quotes if any character may follow a backslash
abbrev pub is_raw : ℕ → Piece → Bool
is_raw quote (plain c) = not (c == quote) && not (is_backslash quote c)
is_raw quote (escape c) = is_backslash quote 92

abbrev pub is_piece : ℕ → Piece → Bool
is_piece quote (plain c) = is_raw quote (plain c)
is_piece quote (escape c) = is_raw quote (escape c) && is_escape c

abbrev pub source : Piece → List ℕ
source (plain c) = c ∷ []
source (escape c) = 92 ∷ c ∷ []

-- the character that an escape sequence stands for: \n is a line feed, \r a carriage return, \t a tab
abbrev pub escape_value : ℕ → ℕ
escape_value c = if c == 110 then 10 else (if c == 114 then 13 else (if c == 116 then 9 else c))

abbrev pub value : Piece → ℕ
value (plain c) = c
value (escape c) = escape_value c

abbrev pub sources : List Piece → List ℕ
sources pieces = flat_map source pieces

-- ---- one token

-- The characters are a bare token if followed by `rest`. A bare token is as long as possible.
pub record IsBare (body rest : List ℕ) : Type 0 where
  pub first : ℕ
  pub others : List ℕ
  pub spelled : body ≡ first ∷ others
  pub begins_so : IsTrue (begins_bare first)
  pub continues : IsTrue (list_all continues_bare others)
  pub longest : begins continues_bare rest ≡ false

pub record IsQuoted (body : List ℕ) : Type 0 where
  pub quote : ℕ
  pub pieces : List Piece
  pub opens : IsTrue (is_quote quote)
  pub are_pieces : IsTrue (list_all (is_piece quote) pieces)
  pub spelled : body ≡ quote ∷ (sources pieces ++ quote ∷ [])

abbrev pub IsToken : Kind → List ℕ → List ℕ → Type 0
IsToken Bare body rest = IsBare body rest
IsToken Quoted body rest = IsQuoted body
IsToken (Mark byte) body rest = (body ≡ byte ∷ []) × IsTrue (is_mark byte)

-- ---- tokens

-- The text, which starts at offset `before`, continues with white space, then this token, then the rest.
pub record IsNext (before : ℕ) (text : List ℕ) (t : Token) (rest : List ℕ) : Type 0 where
  pub gap : List ℕ
  pub body : List ℕ
  pub spelled : text ≡ gap ++ (body ++ rest)
  pub is_gap : IsTrue (list_all is_whitespace gap)
  pub is_token : IsToken t.kind body rest
  pub span_is : t.span ≡ encode_utf8_all body
  pub start_is : t.start ≡ before + width gap
  pub glued_is : t.glued ≡ is_empty gap && not (before == 0)

-- The text continues with these tokens, and `Ends` holds of the offset after them and of the rest.
abbrev pub GoesOn : ℕ → List ℕ → List Token → (ℕ → List ℕ → Type 0) → Type 0
GoesOn before text [] Ends = Ends before text
GoesOn before text (t ∷ ts) Ends =
    (rest : List ℕ) × IsNext before text t rest × GoesOn (t.start + length t.span) rest ts Ends

abbrev pub IsSpace : ℕ → List ℕ → Type 0
IsSpace before text = IsTrue (list_all is_whitespace text)

-- ---- errors

-- The text contains a closing quote after these pieces.
pub record IsClosed (quote : ℕ) (text : List ℕ) : Type 0 where
  pub pieces : List Piece
  pub rest : List ℕ
  pub are_raw : IsTrue (list_all (is_raw quote) pieces)
  pub spelled : text ≡ sources pieces ++ quote ∷ rest

pub record IsOpenQuote (text : List ℕ) : Type 0 where
  pub quote : ℕ
  pub remaining : List ℕ
  pub spelled : text ≡ quote ∷ remaining
  pub opens : IsTrue (is_quote quote)
  pub never : IsClosed quote remaining → ⊥

-- The text starts with a closed string whose first unknown escape sequence is at this offset.
pub record IsBadEscape (offset : ℕ) (text : List ℕ) : Type 0 where
  pub quote : ℕ
  pub pieces : List Piece
  pub bad : ℕ
  pub remaining : List ℕ
  pub spelled : text ≡ quote ∷ (sources pieces ++ 92 ∷ bad ∷ remaining)
  pub opens : IsTrue (is_quote quote)
  pub are_pieces : IsTrue (list_all (is_piece quote) pieces)
  pub has_escapes : IsTrue (is_backslash quote 92)
  pub is_bad : is_escape bad ≡ false
  pub closed : IsClosed quote (sources pieces ++ 92 ∷ bad ∷ remaining)
  pub offset_is : offset ≡ width (quote ∷ sources pieces)

pub record IsBadChar (text : List ℕ) : Type 0 where
  pub bad : ℕ
  pub remaining : List ℕ
  pub spelled : text ≡ bad ∷ remaining
  pub no_token : (is_whitespace bad || (begins_bare bad || (is_quote bad || is_mark bad))) ≡ false

-- The text, which starts at offset `before`, does not begin with a token, because of this error.
abbrev pub IsFaultHere : LexFault → ℕ → List ℕ → Type 0
IsFaultHere TooLong before text = ⊥
IsFaultHere (OpenQuote at) before text = (at ≡ before) × IsOpenQuote text
IsFaultHere (BadEscape at) before text = (offset : ℕ) × (at ≡ before + offset) × IsBadEscape offset text
IsFaultHere (BadChar at) before text = (at ≡ before) × IsBadChar text
IsFaultHere Memory before text = ⊥

-- The text continues with white space, and then with this error.
pub record Breaks (fault : LexFault) (before : ℕ) (text : List ℕ) : Type 0 where
  pub gap : List ℕ
  pub rest : List ℕ
  pub spelled : text ≡ gap ++ rest
  pub is_gap : IsTrue (list_all is_whitespace gap)
  pub is_fault : IsFaultHere fault (before + width gap) rest

-- ---- whole texts

-- the maximum length of a query in bytes
abbrev pub longest : ℕ
longest = 16384

-- The outcome of lexing the text: its tokens, or its first error.
abbrev pub HasLexed : List ℕ → Result (List Token) LexFault → Type 0
HasLexed text (Ok ts) = (length text ≤ longest) × GoesOn 0 (chars text) ts IsSpace
HasLexed text (Err TooLong) = longest < length text
HasLexed text (Err fault) = (length text ≤ longest) × (ts : List Token) × GoesOn 0 (chars text) ts (Breaks fault)

-- The text matches the lexical grammar, and these are its tokens.
abbrev pub IsTokens : List ℕ → List Token → Type 0
IsTokens text ts = HasLexed text (Ok ts)
