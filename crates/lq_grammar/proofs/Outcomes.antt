-- A text has one outcome: the one that its tokens, and else reading from the left, come to.
use Rattle.std.proofs.Common.{◌≡◌, ℕ, ◌-◌, List, ◌++◌, length, drop, map, Result, Ok, Err, refl, sym, ap, ◌∙◌}
use Rattle.std.proofs.Common.{subst, ◌⊎◌, inl, inr, arith}
use Rattle.std.specs.Prelude.{if◌then◌else◌, ◌==◌}
use Rattle.std.proofs.lemmas.List.{length-append, drop_at}
use Rattle.grammar.specs.Spelling.{Flaw, IsStuck, too_deep, refused}
use Rattle.grammar.specs.Reading.{Stop, stuck, flawed}
use Rattle.grammar.proofs.Good.{same_itself}
use Rattle.grammar.proofs.Names.{Answers}
use Rattle.grammar.proofs.Places.{stuck_once, flaw_before}
use Rattle.grammar.proofs.Whole.{StopsFirst}
use Rattle.lq_ast.specs.Question.{Question}
use Rattle.lq_lex.specs.Token.{Token as Piece}
use Rattle.lq_lex.specs.Lexing.{HasLexed}
use Rattle.lq_lex.specs.declared.fault.LexFault.{LexFault}
use Rattle.lq_lex.proofs.Chains.{lexed_same}
use Rattle.lq_grammar.specs.declared.fault.QueryFault.{QueryFault}
use Rattle.lq_grammar.specs.declared.fault.QueryFault.TheVariants.{Lex, Syntax, TooDeep, BadNumber, BadTime}
use Rattle.lq_grammar.specs.declared.fault.QueryFault.TheVariants.{BadDuration, BadPattern, Memory}
use Rattle.lq_grammar.specs.Values.{Bytes, Reason, bad_number, bad_time, bad_duration, bad_pattern}
use Rattle.lq_grammar.specs.Items.{item_of}
use Rattle.lq_grammar.specs.Query.{Items, HasItems, IsQuery, IsFlawed, HasFault, ComesFirst, IsFirstFault, place_or_end}
use Rattle.lq_grammar.specs.Query.{place_of, rank, flaw_fault, QueryOf}
use Rattle.lq_grammar.proofs.Answered.{reading, answered_query, only_query, only_flaw, has_flaw}
use Rattle.lq_grammar.proofs.Order.{place_before, behind_less}

abbrev pub Outcome : Type 0
Outcome = Result Question QueryFault

-- ---- the result of reading, with its place

-- where reading stops with this many tokens left
abbrev pub stop_place : Bytes → Items → ℕ → ℕ
stop_place text items left = place_or_end text (drop (length items - left) items)

abbrev pub named : Bytes → Items → Result Question (Stop Reason) → Outcome
named text items (Ok asked) = Ok asked
named text items (Err (stuck left)) = Err (Syntax (stop_place text items left))
named text items (Err (flawed flaw at)) = Err (flaw_fault flaw at)

-- the tokens that are left
rest_is : (items before rest : Items) (left : ℕ) → items ≡ before ++ rest → left ≡ length rest
    → drop (length items - left) items ≡ rest
rest_is items before rest left parts same =
    let count : length items - left ≡ length before =
    omega (arith, same, ap length parts, length-append before rest) in
    ap (λ (n : ℕ). drop n items) count ∙ ap (drop (length before)) parts ∙ drop_at before rest (length before) refl

stop_is : (text : Bytes) (items rest : Items) (left : ℕ) → left ≡ length rest → (s : IsStuck IsQuery items rest)
    → stop_place text items left ≡ place_or_end text rest
stop_is text items rest left same s = ap (place_or_end text) (rest_is items s.before rest left s.parts same)

-- ---- flaws as faults

-- it has this fault exactly where it has the flaw
flaw_has : (text : Bytes) (items : Items) (flaw : Flaw Reason) (at : ℕ) → IsFlawed items flaw at
    → HasFault text items (flaw_fault flaw at)
flaw_has text items too_deep at h = h
flaw_has text items (refused bad_number) at h = h
flaw_has text items (refused bad_time) at h = h
flaw_has text items (refused bad_duration) at h = h
flaw_has text items (refused bad_pattern) at h = h

-- each fault is the place where no query goes on, or a flaw
data Kinds (text : Bytes) (items : Items) (fault : QueryFault) : Type 0 where
  syntax_at : (at : ℕ) (rest : Items) → fault ≡ Syntax at → IsStuck IsQuery items rest → at ≡ place_or_end text rest
      → Kinds text items fault
  flaw_at : (flaw : Flaw Reason) (at : ℕ) → fault ≡ flaw_fault flaw at → IsFlawed items flaw at
      → Kinds text items fault

kinds : (text : Bytes) (items : Items) (fault : QueryFault) → HasFault text items fault → Kinds text items fault
kinds text items (Lex fault) h = absurd h
kinds text items (Syntax at) h = syntax_at at h.rest refl h.stops h.place_is
kinds text items (TooDeep at) h = flaw_at too_deep at refl h
kinds text items (BadNumber at) h = flaw_at (refused bad_number) at refl h
kinds text items (BadTime at) h = flaw_at (refused bad_time) at refl h
kinds text items (BadDuration at) h = flaw_at (refused bad_duration) at refl h
kinds text items (BadPattern at) h = flaw_at (refused bad_pattern) at refl h
kinds text items Memory h = absurd h

flaw_place : (flaw : Flaw Reason) (at : ℕ) → place_of (flaw_fault flaw at) ≡ at
flaw_place too_deep at = refl
flaw_place (refused bad_number) at = refl
flaw_place (refused bad_time) at = refl
flaw_place (refused bad_duration) at = refl
flaw_place (refused bad_pattern) at = refl

same_first : (one other : QueryFault) → one ≡ other → ComesFirst one other
same_first one other e = inr (ap place_of e, omega (arith, ap rank e))

-- ---- what is read is the outcome

abbrev Read : Type 0
Read = Result Question (Stop Reason)

abbrev stopped : Stop Reason → Read
stopped stop = Err stop

not_read : (asked : Question) (stop : Stop Reason) → Ok asked ≡ stopped stop → ⊥
not_read asked stop e = cc

not_flawed : (left : ℕ) (flaw : Flaw Reason) (at : ℕ) → stopped (stuck left) ≡ stopped (flawed flaw at) → ⊥
not_flawed left flaw at e = cc

same_stop : (flaw other : Flaw Reason) (at place : ℕ) → stopped (flawed flaw at) ≡ stopped (flawed other place)
    → flaw_fault flaw at ≡ flaw_fault other place
same_stop flaw other at place e =
    let flaws : flaw ≡ other = cc in
    let places : at ≡ place = cc in
    ap (λ (f : Flaw Reason). flaw_fault f at) flaws ∙ ap (flaw_fault other) places

-- a query has no fault
no_fault : (text : Bytes) (items : Items) (asked : Question) (fault : QueryFault) → IsQuery (Ok asked) items
    → HasFault text items fault → ⊥
no_fault text items asked fault spelled h = by_kind (kinds text items fault h)
  where
    by_kind : Kinds text items fault → ⊥
    by_kind (syntax_at at rest e s is) =
        s.longest rest (Ok asked) (same_itself rest) (subst (λ (l : Items). IsQuery (Ok asked) l) s.parts spelled)
    by_kind (flaw_at flaw at e f) =
        let c = only_flaw flaw at items f in
        not_read asked (flawed c.0.0 c.0.1) (sym (only_query (Ok asked) items spelled) ∙ c.1)

abbrev pub OutcomeOf : Bytes → Items → Outcome → Type 0
OutcomeOf text items (Ok asked) = IsQuery (Ok asked) items
OutcomeOf text items (Err fault) = IsFirstFault text items fault

pub named_outcome : (text : Bytes) (items : Items) → HasItems text items
    → OutcomeOf text items (named text items (reading items))
named_outcome text items has = by_read (reading items) refl (answered_query items)
  where
    stuck_first : (left : ℕ) → reading items ≡ Err (stuck left) → (rest : Items) → left ≡ length rest
        → IsStuck IsQuery items rest → (other : QueryFault) → Kinds text items other
        → ComesFirst (Syntax (stop_place text items left)) other
    stuck_first left e rest same s other (syntax_at at there is t place) =
        same_first (Syntax (stop_place text items left)) other
        (ap Syntax (stop_is text items rest left same s
        ∙ ap (place_or_end text) (stuck_once IsQuery items rest there s t) ∙ sym place) ∙ sym is)
    stuck_first left e rest same s other (flaw_at flaw at is f) =
        let c = only_flaw flaw at items f in absurd (not_flawed left c.0.0 c.0.1 (sym e ∙ c.1))

    flaw_first : (flaw : Flaw Reason) (at : ℕ) → reading items ≡ Err (flawed flaw at)
        → Answers IsQuery items (Err (flawed flaw at)) → (other : QueryFault) → Kinds text items other
        → ComesFirst (flaw_fault flaw at) other
    flaw_first flaw at e h other (syntax_at there rest is s place) =
        inl (omega (
          arith,
          flaw_place flaw at,
          ap place_of is,
          place,
          place_before text items s.before rest at has s.parts (flaw_before IsQuery items rest at s h),
        ))
    flaw_first flaw at e h other (flaw_at second there is f) = by_place (only_flaw second there items f)
      where
        by_place : StopsFirst (reading items) (second, there) items → ComesFirst (flaw_fault flaw at) other
        by_place (first, read, inl same) =
            same_first (flaw_fault flaw at) other
            (same_stop flaw first.0 at first.1 (sym e ∙ read) ∙ ap (λ k. flaw_fault k.0 k.1) same ∙ sym is)
        by_place (first, read, inr behind) =
            let here : at ≡ first.1 =
            sym (flaw_place flaw at) ∙ ap place_of (same_stop flaw first.0 at first.1 (sym e ∙ read))
            ∙ flaw_place first.0 first.1 in
            inl (omega (
              arith,
              flaw_place flaw at,
              here,
              behind_less text items first.1 there has behind,
              ap place_of is,
              flaw_place second there,
            ))

    by_read : (r : Read) → reading items ≡ r → Answers IsQuery items r → OutcomeOf text items (named text items r)
    by_read (Ok asked) e h = h
    by_read (Err (stuck left)) e (rest, same, s) = record {
      has_fault = record { rest = rest; stops = s; place_is = stop_is text items rest left same s };
      is_first = λ other other_has. stuck_first left e rest same s other (kinds text items other other_has);
    }
    by_read (Err (flawed flaw at)) e h = record {
      has_fault = flaw_has text items flaw at (has_flaw flaw at items e);
      is_first = λ other other_has. flaw_first flaw at e h other (kinds text items other other_has);
    }

-- ---- one first fault

-- the fault of this rank
abbrev ranked : ℕ → ℕ → QueryFault
ranked n at =
    if n == 2 then Syntax at
    else (if n == 3 then TooDeep at
    else (if n == 4 then BadNumber at
    else (if n == 5 then BadTime at
    else (if n == 6 then BadDuration at else BadPattern at))))

is_ranked : (text : Bytes) (items : Items) (fault : QueryFault) → HasFault text items fault
    → fault ≡ ranked (rank fault) (place_of fault)
is_ranked text items (Lex fault) h = absurd h
is_ranked text items (Syntax at) h = refl
is_ranked text items (TooDeep at) h = refl
is_ranked text items (BadNumber at) h = refl
is_ranked text items (BadTime at) h = refl
is_ranked text items (BadDuration at) h = refl
is_ranked text items (BadPattern at) h = refl
is_ranked text items Memory h = absurd h

both_first : (one other : QueryFault) → ComesFirst one other → ComesFirst other one
    → (rank one ≡ rank other) × (place_of one ≡ place_of other)
both_first one other (inl h) (inl k) = absurd (omega (arith, h, k))
both_first one other (inl h) (inr k) = absurd (omega (arith, h, k.0))
both_first one other (inr h) (inl k) = absurd (omega (arith, h.0, k))
both_first one other (inr h) (inr k) = (omega (arith, h.1, k.1), h.0)

one_first : (text : Bytes) (items : Items) (one other : QueryFault) → IsFirstFault text items one
    → IsFirstFault text items other → one ≡ other
one_first text items one other h k =
    let same = both_first one other (h.is_first other k.has_fault) (k.is_first one h.has_fault) in
    is_ranked text items one h.has_fault ∙ ap (λ (n : ℕ). ranked n (place_of one)) same.0
    ∙ ap (ranked (rank other)) same.1 ∙ sym (is_ranked text items other k.has_fault)

one_of_items : (text : Bytes) (items : Items) (one other : Outcome) → OutcomeOf text items one
    → OutcomeOf text items other → one ≡ other
one_of_items text items (Ok asked) (Ok second) h k =
    asked_same (sym (only_query (Ok asked) items h) ∙ only_query (Ok second) items k)
  where
    asked_read : Question → Read
    asked_read q = Ok q

    outcome_asked : Question → Outcome
    outcome_asked q = Ok q

    asked_same : asked_read asked ≡ asked_read second → outcome_asked asked ≡ outcome_asked second
    asked_same e = let same : asked ≡ second = cc in ap Ok same
one_of_items text items (Ok asked) (Err fault) h k = absurd (no_fault text items asked fault h k.has_fault)
one_of_items text items (Err fault) (Ok asked) h k = absurd (no_fault text items asked fault k h.has_fault)
one_of_items text items (Err fault) (Err second) h k = ap Err (one_first text items fault second h k)

-- ---- whole texts

abbrev Lexed : Type 0
Lexed = Result (List Piece) LexFault

-- a text without tokens, or with the tokens of an outcome
abbrev Found : Bytes → Outcome → Type 0
Found text r =
    ((fault : LexFault) × (r ≡ Err (Lex fault)) × HasLexed text (Err fault))
    ⊎ ((items : Items) × HasItems text items × OutcomeOf text items r)

found : (text : Bytes) (r : Outcome) → QueryOf text r → Found text r
unfolding QueryOf
found text (Ok asked) h = inr (h.items, h.has_items, h.spelled)
found text (Err (Lex fault)) h = inl (fault, refl, h)
found text (Err (Syntax at)) h = inr h
found text (Err (TooDeep at)) h = inr h
found text (Err (BadNumber at)) h = inr h
found text (Err (BadTime at)) h = inr h
found text (Err (BadDuration at)) h = inr h
found text (Err (BadPattern at)) h = inr h
found text (Err Memory) h = inr h

same_items : (text : Bytes) (one other : Items) → HasItems text one → HasItems text other → one ≡ other
same_items text one other h k =
    h.items_are ∙ ap (map item_of) (tokens_same (lexed_same text (Ok h.tokens) (Ok k.tokens) h.are_tokens k.are_tokens))
    ∙ sym k.items_are
  where
    lexed : List Piece → Lexed
    lexed tokens = Ok tokens

    tokens_same : {a b : List Piece} → lexed a ≡ lexed b → a ≡ b
    tokens_same e = cc

pub one_outcome : (text : Bytes) (one other : Outcome) → QueryOf text one → QueryOf text other → one ≡ other
one_outcome text one other h k = by_found (found text one h) (found text other k)
  where
    lexed : List Piece → Lexed
    lexed tokens = Ok tokens

    failed : LexFault → Lexed
    failed fault = Err fault

    not_both : (tokens : List Piece) (fault : LexFault) → HasLexed text (Ok tokens) → HasLexed text (Err fault) → ⊥
    not_both tokens fault h k = let e : lexed tokens ≡ failed fault = lexed_same text (Ok tokens) (Err fault) h k in cc

    by_found : Found text one → Found text other → one ≡ other
    by_found (inl (fault, is, h)) (inl (second, is_too, k)) =
        let e : failed fault ≡ failed second = lexed_same text (Err fault) (Err second) h k in
        let same : fault ≡ second = cc in
        is ∙ ap (λ (f : LexFault). Err (Lex f)) same ∙ sym is_too
    by_found (inl (fault, is, h)) (inr (items, has, k)) = absurd (not_both has.tokens fault has.are_tokens h)
    by_found (inr (items, has, h)) (inl (fault, is, k)) = absurd (not_both has.tokens fault has.are_tokens k)
    by_found (inr (items, has, h)) (inr (others, has_too, k)) =
        one_of_items text items one other h
        (subst (λ (l : Items). OutcomeOf text l other) (same_items text others items has_too has) k)

outcome_found : (text : Bytes) (items : Items) → HasItems text items → (r : Outcome) → OutcomeOf text items r
    → QueryOf text r
unfolding QueryOf
outcome_found text items has (Ok asked) h = record { items = items; has_items = has; spelled = h }
outcome_found text items has (Err (Lex fault)) h = absurd h.has_fault
outcome_found text items has (Err (Syntax at)) h = (items, has, h)
outcome_found text items has (Err (TooDeep at)) h = (items, has, h)
outcome_found text items has (Err (BadNumber at)) h = (items, has, h)
outcome_found text items has (Err (BadTime at)) h = (items, has, h)
outcome_found text items has (Err (BadDuration at)) h = (items, has, h)
outcome_found text items has (Err (BadPattern at)) h = (items, has, h)
outcome_found text items has (Err Memory) h = (items, has, h)

-- of a text with tokens
pub query_named : (text : Bytes) (items : Items) → HasItems text items → (r : Outcome)
    → named text items (reading items) ≡ r → QueryOf text r
query_named text items has r e =
    outcome_found text items has r (subst (OutcomeOf text items) e (named_outcome text items has))

pub some_outcome : (text : Bytes) (items : Items) → HasItems text items → (r : Outcome) × QueryOf text r
some_outcome text items has =
    (named text items (reading items), query_named text items has (named text items (reading items)) refl)

-- what is a query but for a flaw
pub flaw_named : (text : Bytes) (items : Items) (flaw : Flaw Reason) (at : ℕ) → HasItems text items
    → IsQuery (Err (flaw, at)) items → QueryOf text (Err (flaw_fault flaw at))
flaw_named text items flaw at has spelled =
    query_named text items has (Err (flaw_fault flaw at))
    (ap (named text items) (only_query (Err (flaw, at)) items spelled))
