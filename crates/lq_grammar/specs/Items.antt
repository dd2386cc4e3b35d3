-- What each token of a text is to the grammar.
use Rattle.std.specs.Prelude.{ℕ, ◌+◌, ◌==◌, List, [], ◌∷◌, map, bytes_eq, codes, if◌then◌else◌}
use Rattle.std.specs.Str.{str_to_ascii_lowercase}
use denote.Ref.{Bor}
use Rattle.grammar.specs.Rule.{Token}
use Rattle.lq_lex.specs.Token.{Token as Piece}
use Rattle.lq_lex.specs.Texts.{text_of}
use Rattle.lq_lex.specs.declared.token.Kind.{Kind}
use Rattle.lq_lex.specs.declared.token.Kind.TheVariants.{Bare as BareKind, Quoted as QuotedKind, Mark}
use Rattle.lq_grammar.specs.declared.classify.TheConstants.{KEYWORDS}
use Rattle.lq_grammar.specs.declared.role.Role.{Role}
use Rattle.lq_grammar.specs.declared.role.Role.TheVariants.{Bare, Time, Stream, QuotedTime, Quoted, Bar, Open, Close}
use Rattle.lq_grammar.specs.declared.role.Role.TheVariants.{SquareOpen, SquareClose, CurlyOpen, CurlyClose, Comma}
use Rattle.lq_grammar.specs.declared.role.Role.TheVariants.{Colon, Equals, Bang, Tilde, Star, Less, Greater, Minus}
use Rattle.lq_grammar.specs.declared.role.Role.TheVariants.{Plus}
use Rattle.lq_grammar.specs.Roles.{number, apart_by}
use Rattle.lq_grammar.specs.Values.{Bytes}

-- words in lower case, and what each is
abbrev pub keywords : List (Bytes × Role)
keywords = map (λ entry. (entry.0.now, entry.1)) KEYWORDS.now

-- an entry with its word in lower case
abbrev pub entry_of : Bor Bytes × Role → Bytes × Role
entry_of entry = (str_to_ascii_lowercase entry.0.now, entry.1)

-- the role of a word in a list: that of its first entry
abbrev pub role_in : List (Bytes × Role) → Bytes → Role
role_in [] word = Bare
role_in (entry ∷ entries) word = if bytes_eq word entry.0 then entry.1 else role_in entries word

-- in any case of its ASCII letters
abbrev pub keyword_role : Bytes → Role
keyword_role span = role_in keywords (str_to_ascii_lowercase span)

abbrev pub word_role : Bytes → Role
word_role span =
    if bytes_eq span (codes "_time") then Time
    else (if bytes_eq span (codes "_stream") then Stream else keyword_role span)

abbrev pub quoted_role : Bytes → Role
quoted_role text = if bytes_eq text (codes "_time") then QuotedTime else Quoted

-- the brackets and the bar
abbrev pub bracket_role : ℕ → Role
bracket_role byte =
    if byte == 40 then Open
    else (if byte == 41 then Close
    else (if byte == 91 then SquareOpen
    else (if byte == 93 then SquareClose
    else (if byte == 123 then CurlyOpen
    else (if byte == 125 then CurlyClose else Bar)))))

-- = ! ~ * < > - +, and else a bracket or the bar
abbrev pub sign_role : ℕ → Role
sign_role byte =
    if byte == 61 then Equals
    else (if byte == 33 then Bang
    else (if byte == 126 then Tilde
    else (if byte == 42 then Star
    else (if byte == 60 then Less
    else (if byte == 62 then Greater
    else (if byte == 45 then Minus
    else (if byte == 43 then Plus else bracket_role byte)))))))

abbrev pub mark_role : ℕ → Role
mark_role byte = if byte == 44 then Comma else (if byte == 58 then Colon else sign_role byte)

abbrev pub role_of : Kind → Bytes → Bytes → Role
role_of BareKind span text = word_role span
role_of QuotedKind span text = quoted_role text
role_of (Mark byte) span text = mark_role byte

-- the token as the grammar sees it
unfoldable pub item_of : Piece → Token Bytes
item_of t = record {
  kind = number (role_of t.kind t.span (text_of t)) + (if t.glued then apart_by else 0);
  place = t.start;
  content = text_of t;
}
