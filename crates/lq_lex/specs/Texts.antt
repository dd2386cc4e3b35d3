-- The string that a token stands for.
use Rattle.std.specs.Prelude.{ℕ, List, [], ◌∷◌, chars, if◌then◌else◌}
use Rattle.std.specs.Str.{encode_utf8_all}
use Rattle.lq_lex.specs.declared.token.Kind.TheVariants.{Bare, Quoted, Mark}
use Rattle.lq_lex.specs.declared.token.Kind.{Kind}
use Rattle.lq_lex.specs.Token.{Token}
use Rattle.lq_lex.specs.Lexing.{is_backslash, escape_value}

-- the content before the closing quote, which is the last character, with escape sequences replaced
abbrev pub unescape : ℕ → List ℕ → List ℕ
unescape quote [] = []
unescape quote (c ∷ []) = []
unescape quote (c ∷ d ∷ cs) =
    if is_backslash quote c then escape_value d ∷ unescape quote cs else c ∷ unescape quote (d ∷ cs)

abbrev pub quoted_content : List ℕ → List ℕ
quoted_content [] = []
quoted_content (quote ∷ cs) = unescape quote cs

abbrev pub content : Kind → List ℕ → List ℕ
content Quoted span = encode_utf8_all (quoted_content (chars span))
content Bare span = span
content (Mark byte) span = span

abbrev pub text_of : Token → List ℕ
text_of t = content t.kind t.span

-- the text from its first backslash on, or from its last character
abbrev pub plain_end : ℕ → List ℕ → List ℕ
plain_end quote [] = []
plain_end quote (c ∷ []) = c ∷ []
plain_end quote (c ∷ d ∷ cs) = if is_backslash quote c then c ∷ d ∷ cs else plain_end quote (d ∷ cs)
