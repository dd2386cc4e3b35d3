-- The lexer's steps, from left to right, on the characters of a text.
use Rattle.std.specs.Prelude.{ℕ, ◌-◌, Bool, true, false, ◌==◌, List, [], ◌∷◌, Option, Some, None, Result, Ok, Err}
use Rattle.std.specs.Prelude.{if◌then◌else◌}
use Rattle.lq_lex.specs.declared.token.Kind.{Kind}
use Rattle.lq_lex.specs.declared.token.Kind.TheVariants.{Bare, Quoted, Mark}
use Rattle.lq_lex.specs.declared.fault.LexFault.{LexFault}
use Rattle.lq_lex.specs.declared.fault.LexFault.TheVariants.{OpenQuote, BadEscape, BadChar}
use Rattle.lq_lex.specs.Lexing.{begins_bare, continues_bare, is_quote, is_mark, is_backslash, is_escape, width}

-- the rest after the characters that continue a bare token
abbrev pub bare_end : List ℕ → List ℕ
bare_end [] = []
bare_end (c ∷ cs) = if continues_bare c then bare_end cs else c ∷ cs

-- the rest after the closing quote; `backslash` tells whether the last character escapes the next one
abbrev pub quote_end : ℕ → Bool → List ℕ → Option (List ℕ)
quote_end quote backslash [] = None
quote_end quote true (c ∷ cs) = quote_end quote false cs
quote_end quote false (c ∷ cs) = if c == quote then Some cs else quote_end quote (is_backslash quote c) cs

-- the text from its first unknown escape sequence on, if there is one before the closing quote
abbrev pub first_bad : ℕ → List ℕ → Option (List ℕ)
first_bad quote [] = None
first_bad quote (c ∷ []) = None
first_bad quote (c ∷ d ∷ cs) =
    if c == quote then None
    else (if is_backslash quote c then (if is_escape d then first_bad quote cs else Some (c ∷ d ∷ cs))
    else first_bad quote (d ∷ cs))

-- A kind and the rest, or an error. The whole text ends at offset `end`.
abbrev pub unless_bad : ℕ → List ℕ → Option (List ℕ) → Result (Kind × List ℕ) LexFault
unless_bad end rest None = Ok (Quoted, rest)
unless_bad end rest (Some bad) = Err (BadEscape (end - width bad))

abbrev pub closed_at : ℕ → ℕ → List ℕ → Option (List ℕ) → Result (Kind × List ℕ) LexFault
closed_at end quote remaining None = Err (OpenQuote (end - width (quote ∷ remaining)))
closed_at end quote remaining (Some rest) = unless_bad end rest (first_bad quote remaining)

unfoldable pub token_at : ℕ → List ℕ → Result (Kind × List ℕ) LexFault
token_at end [] = Err (BadChar end)
token_at end (c ∷ cs) =
    if begins_bare c then Ok (Bare, bare_end cs)
    else (if is_quote c then closed_at end c cs (quote_end c false cs)
    else (if is_mark c then Ok (Mark c, cs)
    else Err (BadChar (end - width (c ∷ cs)))))
