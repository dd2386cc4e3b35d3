-- The lexer's loop over tokens.
use Rattle.std.proofs.Common.{◌≡◌, ℕ, ◌+◌, ◌-◌, ◌<◌, ◌≤◌, List, [], ◌∷◌, ◌++◌, length, map, chars, Option, Some, None, Result, Ok, Err, refl, sym, ap, ◌∙◌, ◌≢◌, subst, arith, IsUtf8}
use Rattle.std.proofs.lemmas.List.{map-append}
use denote.Ref.{Bor}
use Rattle.lq_lex.specs.declared.token.Token.{Token as RustToken}
use Rattle.lq_lex.specs.declared.fault.LexFault.{LexFault}
use Rattle.lq_lex.specs.declared.fault.LexFault.TheVariants.{TooLong, OpenQuote, BadEscape, BadChar, Memory}
use Rattle.lq_lex.specs.Token.{Token, token_value}
use Rattle.lq_lex.specs.Lexing.{IsNext, GoesOn, IsSpace, Breaks, HasLexed, longest}
use Rattle.lq_lex.specs.Clauses.{StepsTo, Collects}
use Rattle.lq_lex.proofs.Chains.{At, goes_on_more, goes_on_end, lexed_same}
use Rattle.lq_lex.proofs.Nexts.{next_ends}

abbrev Step : Type 0
Step = Option (RustToken × Bor (List ℕ))

pub stepped : (before : ℕ) (text : List ℕ) (o : Step) (token : RustToken) (remaining : Bor (List ℕ)) → o ≡ Some (token, remaining) → StepsTo before text (Ok o) → IsNext before (chars text) (token_value token) (chars remaining.now) × IsUtf8 remaining.now
stepped before text o token remaining is s = subst (λ (x : Step). StepsTo before text (Ok x)) is s

pub at_end : (before : ℕ) (text : List ℕ) (o : Step) → o ≡ None → StepsTo before text (Ok o) → IsSpace before (chars text)
at_end before text o is s = subst (λ (x : Step). StepsTo before text (Ok x)) is s

abbrev So_far : List ℕ → List RustToken → List ℕ → Type 0
So_far text list rest = (length rest ≤ length text) × GoesOn 0 (chars text) (map token_value list) (At (length text - length rest) (chars rest))

pub one_more : (text rest remaining : List ℕ) (list longer : List RustToken) (token : RustToken) → IsUtf8 rest → So_far text list rest → IsNext (length text - length rest) (chars rest) (token_value token) (chars remaining) × IsUtf8 remaining → longer ≡ list ++ token ∷ [] → IsUtf8 remaining × So_far text longer remaining
one_more text rest remaining list longer token utf8 (fits, g) (n, utf8') e =
    let ends = next_ends rest remaining (length text) (token_value token) utf8 utf8' fits n in
    let more = goes_on_more 0 (chars text) (map token_value list) (length text - length rest) (chars rest) (token_value token) (chars remaining) g n in
    let same : map token_value longer ≡ map token_value list ++ token_value token ∷ [] = ap (map token_value) e ∙ map-append token_value list (token ∷ []) in (
      utf8',
      (omega (arith, ends.1, fits), subst (λ (ts : List Token). GoesOn 0 (chars text) ts (At (length text - length remaining) (chars remaining))) (sym same) (subst (λ (k : ℕ). GoesOn 0 (chars text) (map token_value list ++ token_value token ∷ []) (At k (chars remaining))) ends.0 more)),
    )

pub shorter : (text rest remaining : List ℕ) (token : RustToken) → IsUtf8 rest → length rest ≤ length text → IsNext (length text - length rest) (chars rest) (token_value token) (chars remaining) × IsUtf8 remaining → length remaining < length rest
shorter text rest remaining token utf8 fits (n, utf8') = (next_ends rest remaining (length text) (token_value token) utf8 utf8' fits n).1

pub collects_all : (text rest : List ℕ) (list : List RustToken) → So_far text list rest → IsSpace (length text - length rest) (chars rest) → GoesOn 0 (chars text) (map token_value list) IsSpace
collects_all text rest list (fits, g) s = goes_on_end 0 (chars text) (map token_value list) (length text - length rest) (chars rest) IsSpace g s

pub collects_none : (text rest : List ℕ) (list : List RustToken) (fault : LexFault) → So_far text list rest → Breaks fault (length text - length rest) (chars rest) → Collects text (Err fault)
collects_none text rest list TooLong (fits, g) s = (map token_value list, goes_on_end 0 (chars text) (map token_value list) (length text - length rest) (chars rest) (Breaks TooLong) g s)
collects_none text rest list (OpenQuote at) (fits, g) s = (map token_value list, goes_on_end 0 (chars text) (map token_value list) (length text - length rest) (chars rest) (Breaks (OpenQuote at)) g s)
collects_none text rest list (BadEscape at) (fits, g) s = (map token_value list, goes_on_end 0 (chars text) (map token_value list) (length text - length rest) (chars rest) (Breaks (BadEscape at)) g s)
collects_none text rest list (BadChar at) (fits, g) s = (map token_value list, goes_on_end 0 (chars text) (map token_value list) (length text - length rest) (chars rest) (Breaks (BadChar at)) g s)
collects_none text rest list Memory (fits, g) s = tt

-- ---- whole texts

no_end : (b : ℕ) (text : List ℕ) (ts : List Token) → GoesOn b text ts (Breaks TooLong) → ⊥
no_end b text [] s = s.is_fault
no_end b text (t ∷ ts) (m, n, g) = no_end (t.start + length t.span) m ts g

abbrev Lexed : Type 0
Lexed = Result (List Token) LexFault

abbrev failed : LexFault → Lexed
failed fault = Err fault

pub lexed_err : (text : List ℕ) (fault : LexFault) → length text ≤ longest → Collects text (Err fault) → failed fault ≢ Err Memory → HasLexed text (Err fault)
lexed_err text TooLong fits (ts, g) other = absurd (no_end 0 (chars text) ts g)
lexed_err text (OpenQuote at) fits (ts, g) other = (fits, ts, g)
lexed_err text (BadEscape at) fits (ts, g) other = (fits, ts, g)
lexed_err text (BadChar at) fits (ts, g) other = (fits, ts, g)
lexed_err text Memory fits s other = absurd (other refl)

pub only_err : (text : List ℕ) (fault : LexFault) → length text ≤ longest → Collects text (Err fault) → (lexed : Lexed) → HasLexed text lexed → failed fault ≢ Err Memory → failed fault ≡ lexed
only_err text fault fits s lexed h other = lexed_same text (Err fault) lexed (lexed_err text fault fits s other) h

pub only_ok : (text : List ℕ) (list : List RustToken) → length text ≤ longest → GoesOn 0 (chars text) (map token_value list) IsSpace → (lexed : Lexed) → HasLexed text lexed → Ok (map token_value list) ≡ lexed
only_ok text list fits g lexed h = lexed_same text (Ok (map token_value list)) lexed (fits, g) h

pub only_long : (text : List ℕ) → longest < length text → (lexed : Lexed) → HasLexed text lexed → Err TooLong ≡ lexed
only_long text long lexed h = lexed_same text (Err TooLong) lexed long h
