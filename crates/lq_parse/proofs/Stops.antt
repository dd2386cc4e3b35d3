-- Where reading stops, as a fault with its place.
use Rattle.std.proofs.Common.{◌≡◌, ◌≢◌, ℕ, ◌≤◌, List, length, Result, Ok, Err, IfOk}
use Rattle.std.proofs.Common.{sym, ap, ◌∙◌, subst, refl, arith}
use Rattle.std.proofs.lemmas.List.{length-append}
use Rattle.grammar.specs.Spelling.{IsStuck}
use Rattle.grammar.specs.Reading.{Stop, stuck}
use Rattle.grammar.proofs.Names.{Answers}
use Rattle.lq_ast.specs.Question.{Question, question}
use Rattle.lq_ast.specs.declared.query.Query.{Query}
use Rattle.lq_lex.specs.Token.{Token as Piece}
use Rattle.lq_lex.specs.Lexing.{HasLexed}
use Rattle.lq_lex.specs.declared.fault.LexFault.{LexFault}
use Rattle.lq_lex.specs.declared.fault.LexFault.TheVariants.{TooLong, OpenQuote, BadEscape, BadChar}
use Rattle.lq_lex.specs.declared.fault.LexFault.TheVariants.{Memory as LexMemory}
use Rattle.lq_grammar.specs.declared.fault.Stop.{Stop as Halt}
use Rattle.lq_grammar.specs.declared.fault.QueryFault.{QueryFault}
use Rattle.lq_grammar.specs.declared.fault.QueryFault.TheVariants.{Lex, Syntax, TooDeep, BadNumber, BadTime}
use Rattle.lq_grammar.specs.declared.fault.QueryFault.TheVariants.{BadDuration, BadPattern, Memory}
use Rattle.lq_grammar.specs.Values.{Bytes, Reason}
use Rattle.lq_grammar.specs.Clauses.{Fails, lex_fault}
use Rattle.lq_grammar.specs.Query.{Items, HasItems, IsQuery, IsQueryText, QueryOf}
use Rattle.lq_grammar.proofs.Answered.{answered_query}
use Rattle.lq_grammar.proofs.Outcomes.{Outcome, OutcomeOf, named, named_outcome, stop_place, one_outcome, query_named}
use Rattle.lq_parse.specs.Outcome.{NamesStop, outcome, reading}

-- the outcome of reading this
pub outcome_when : (text : Bytes) (items : Items) → HasItems text items → (r : Result Question (Stop Reason))
    → reading items ≡ r → OutcomeOf text items (named text items r)
outcome_when text items has r e =
    subst (λ (q : Result Question (Stop Reason)). OutcomeOf text items (named text items q)) e
    (named_outcome text items has)

pub few_left : (items : Items) (left : ℕ) → reading items ≡ Err (stuck left) → left ≤ length items
few_left items left e = by_answer (subst (Answers IsQuery items) e (answered_query items))
  where
    by_answer : (rest : Items) × (left ≡ length rest) × IsStuck IsQuery items rest → left ≤ length items
    by_answer (rest, same, s) = omega (arith, same, ap length s.parts, length-append s.before rest)

pub syntax_at : (text : Bytes) (items : Items) → HasItems text items → (left at : ℕ)
    → reading items ≡ Err (stuck left) → at ≡ stop_place text items left → OutcomeOf text items (Err (Syntax at))
syntax_at text items has left at e is =
    subst (λ (n : ℕ). OutcomeOf text items (Err (Syntax n))) (sym is) (outcome_when text items has (Err (stuck left)) e)

abbrev failed : QueryFault → Outcome
failed fault = Err fault

abbrev refused : QueryFault → Result Query QueryFault
refused fault = Err fault

abbrev lex_failed : LexFault → Result (List Piece) LexFault
lex_failed fault = Err fault

-- a text without tokens
pub lex_found : (text : Bytes) (fault : LexFault) → (lex_failed fault ≢ lex_failed LexMemory
    → HasLexed text (Err fault))
    → failed (lex_fault fault) ≢ failed Memory → QueryOf text (Err (lex_fault fault))
unfolding QueryOf
lex_found text TooLong lexed some = lexed (λ e. cc)
lex_found text (OpenQuote at) lexed some = lexed (λ e. cc)
lex_found text (BadEscape at) lexed some = lexed (λ e. cc)
lex_found text (BadChar at) lexed some = lexed (λ e. cc)
lex_found text LexMemory lexed some = absurd (some refl)

-- where the reader stopped at this, reading does
pub fails_so : (items : Items) (halt other : Halt) → halt ≡ other → Fails halt (reading items)
    → Fails other (reading items)
fails_so items halt other e h = subst (λ (k : Halt). Fails k (reading items)) e h

-- a text whose tokens were read to their end
pub read_found : (text : Bytes) (items : Items) (asked : Question) → HasItems text items → reading items ≡ Ok asked
    → QueryOf text (Ok asked)
read_found text items asked has e = query_named text items has (Ok asked) (ap (named text items) e)

pub stop_found : (text : Bytes) (items : Items) (fault : QueryFault) → HasItems text items
    → NamesStop text items fault → refused fault ≢ refused Memory → QueryOf text (Err fault)
unfolding QueryOf
stop_found text items (Lex fault) has out some = absurd out.has_fault
stop_found text items (Syntax at) has out some = (items, has, out)
stop_found text items (TooDeep at) has out some = (items, has, out)
stop_found text items (BadNumber at) has out some = (items, has, out)
stop_found text items (BadTime at) has out some = (items, has, out)
stop_found text items (BadDuration at) has out some = (items, has, out)
stop_found text items (BadPattern at) has out some = (items, has, out)
stop_found text items Memory has out some = absurd (some refl)

pub spelled_when : (text : Bytes) (r : Result Query QueryFault) → (r ≢ refused Memory → QueryOf text (outcome r))
    → IfOk r (λ query. IsQueryText text (question query))
unfolding QueryOf
spelled_when text (Ok query) found = found (λ e. cc)
spelled_when text (Err fault) found = tt

pub only_when : (text : Bytes) (r : Result Query QueryFault) → (r ≢ refused Memory → QueryOf text (outcome r))
    → (other : Outcome) → QueryOf text other → r ≢ refused Memory → outcome r ≡ other
only_when text r found other h some = one_outcome text (outcome r) other (found some) h

pub complete_when : (text : Bytes) (r : Result Query QueryFault) → (r ≢ refused Memory → QueryOf text (outcome r))
    → (asked : Question) → IsQueryText text asked → r ≢ refused Memory → outcome r ≡ Ok asked
unfolding QueryOf
complete_when text r found asked spelled some = only_when text r found (Ok asked) spelled some

-- a text whose tokens were not found
pub lex_when : (text : Bytes) (r : Result Query QueryFault) (fault : LexFault)
    → (lex_failed fault ≢ lex_failed LexMemory → HasLexed text (Err fault))
    → (e : QueryFault) × (r ≡ Err e) × (e ≡ lex_fault fault) → r ≢ refused Memory → QueryOf text (outcome r)
lex_when text r fault lexed (e, is, be) some =
    subst (λ (q : Result Query QueryFault). QueryOf text (outcome q)) (sym (is ∙ ap Err be))
    (lex_found text fault lexed (λ same. some (is ∙ ap Err (be ∙ err_is same))))
  where
    err_is : {a b : QueryFault} → failed a ≡ failed b → a ≡ b
    err_is same = cc
