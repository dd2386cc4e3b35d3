-- What the lexer's functions return.
use Rattle.std.specs.Prelude.{◌≡◌, ℕ, ◌<◌, List, [], ◌∷◌, length, map, chars, Option, Some, None, Result, Ok, Err}
use Rattle.std.specs.Prelude.{Vec, IsUtf8}
use Rattle.lq_lex.specs.declared.token.Kind.{Kind}
use Rattle.lq_lex.specs.declared.token.Token.{Token as RustToken}
use Rattle.lq_lex.specs.declared.fault.LexFault.{LexFault}
use Rattle.lq_lex.specs.declared.fault.LexFault.TheVariants.{Memory}
use Rattle.lq_lex.specs.Token.{Token, token_value}
use Rattle.lq_lex.specs.Lexing.{IsNext, GoesOn, IsSpace, Breaks}
use denote.Ref.{Bor}
use Rattle.std.specs.Global.{Global}

-- the first character, and the rest
abbrev pub SplitsFirst : List ℕ → Option (ℕ × Bor (List ℕ)) → Type 0
SplitsFirst text None = (text ≡ []) × (chars text ≡ [])
SplitsFirst text (Some x) = (chars text ≡ x.0 ∷ chars x.1.now) × (length x.1.now < length text) × IsUtf8 x.1.now

-- a kind, and the rest
abbrev pub ReadsToken : Result (Kind × Bor (List ℕ)) LexFault → Result (Kind × List ℕ) LexFault → Type 0
ReadsToken (Ok x) read = (read ≡ Ok (x.0, chars x.1.now)) × IsUtf8 x.1.now
ReadsToken (Err fault) read = read ≡ Err fault

-- the next token and the rest, none at the end, or an error
abbrev pub StepsTo : ℕ → List ℕ → Result (Option (RustToken × Bor (List ℕ))) LexFault → Type 0
StepsTo before text (Ok (Some x)) = IsNext before (chars text) (token_value x.0) (chars x.1.now) × IsUtf8 x.1.now
StepsTo before text (Ok None) = IsSpace before (chars text)
StepsTo before text (Err fault) = Breaks fault before (chars text)

-- all tokens, or an error, unless memory ran out
abbrev pub Collects : List ℕ → Result (Vec RustToken Global) LexFault → Type 0
Collects text (Ok list) = GoesOn 0 (chars text) (map token_value list.items) IsSpace
Collects text (Err Memory) = Unit {0}
Collects text (Err fault) = (ts : List Token) × GoesOn 0 (chars text) ts (Breaks fault)
