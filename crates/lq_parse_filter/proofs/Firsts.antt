-- Which tokens a rule begins with.
use Rattle.std.proofs.Common.{◌≡◌, ℕ, Ok, ◌||◌, List, [], ◌∷◌, ◌++◌, refl, ap, ◌∙◌, Bool, true, false}
use Rattle.grammar.specs.Reading.{first}
use Rattle.lq_grammar.specs.declared.role.Role.{Role}
use Rattle.lq_grammar.specs.declared.role.Role.TheVariants.{And, Not, Bang, Minus, Open, CurlyOpen, Time, Stream}
use Rattle.lq_grammar.specs.declared.role.Role.TheVariants.{QuotedTime, Quoted, Equals, Tilde, Greater, Less, Star}
use Rattle.lq_grammar.specs.declared.scope.Scope.TheVariants.{Rows, Records}
use Rattle.lq_grammar.specs.Roles.{any, words, plain_words, calls}
use Rattle.lq_grammar.specs.Values.{Bytes}
use Rattle.lq_grammar.specs.LogsQL.{heads, arg, args, texts, optional_groups, groups, labels, label, next_unary, unary}
use Rattle.lq_grammar.specs.LogsQL.{unit, row_unit, record_unit, selector, word_unit, led, range_led, word_led}
use Rattle.lq_grammar.specs.LogsQL.{mark_leaf, exact, regex, greater, less, star}
use Rattle.grammar.proofs.Sets.{inside, inside_next}
use Rattle.std.proofs.Common.{sym}
use Rattle.lq_grammar.specs.Clauses.{at}
use Rattle.std.proofs.lemmas.Bool.{cond-true, cond-false}
use Rattle.grammar.specs.Rule.{Token, Class, next}
use Rattle.lq_grammar.proofs.Codes.{member-append}

pub next_append : {X : Type 0} → (a b : Class) (u : List (Token X)) → next (a ++ b) u ≡ (next a u || next b u)
next_append a b [] = refl
next_append a b (t ∷ ts) = member-append t.kind a b

pub arg_first : (u : List (Token Bytes)) → next (any (Minus ∷ [])) u ≡ false
    → next (first heads arg) u ≡ next (any words) u
unfolding arg
arg_first u e = next_append (any (Minus ∷ [])) (any words) u ∙ ap (λ (b : Bool). b || next (any words) u) e

pub texts_some : (depth : ℕ) (u : List (Token Bytes)) → next (first heads arg) u ≡ true
    → at depth texts u ≡ at depth args u
unfolding texts args arg
texts_some depth u e = cond-true (next (first heads arg) u) (at depth args u) (Ok ([], u)) e

pub texts_none : (depth : ℕ) (u : List (Token Bytes)) → next (first heads arg) u ≡ false
    → at depth texts u ≡ Ok ([], u)
unfolding texts args arg
texts_none depth u e = cond-false (next (first heads arg) u) (at depth args u) (Ok ([], u)) e

pub groups_some : (depth : ℕ) (u : List (Token Bytes)) → next (any words) u ≡ true
    → at depth optional_groups u ≡ at depth groups u
unfolding optional_groups groups labels label
groups_some depth u e = cond-true (next (any words) u) (at depth groups u) (Ok ([], u)) e

pub groups_none : (depth : ℕ) (u : List (Token Bytes)) → next (any words) u ≡ false
    → at depth optional_groups u ≡ Ok ([], u)
unfolding optional_groups groups labels label
groups_none depth u e = cond-false (next (any words) u) (at depth groups u) (Ok ([], u)) e

-- what begins a filter after another one
within : (a b : Class) (u : List (Token Bytes)) → inside a b ≡ true → inside b a ≡ true → next a u ≡ next b u
within a b u there back = by_test (next a u) refl (next b u) refl
  where
    by_test : (x : Bool) → next a u ≡ x → (y : Bool) → next b u ≡ y → x ≡ y
    by_test true e true f = refl
    by_test false e false f = refl
    by_test true e false f = sym (inside_next a b u there e) ∙ f
    by_test false e true f = sym e ∙ inside_next b a u back f

abbrev other_starts : List Role
other_starts =
    And ∷ Not ∷ Bang ∷ Minus ∷ Open ∷ (plain_words ++ calls ++ Time ∷ Stream ∷ QuotedTime ∷ Quoted ∷ Equals ∷ Tilde
    ∷ Greater ∷ Less ∷ Star ∷ [])

pub record_first : (u : List (Token Bytes)) → next (any other_starts) u ≡ next (first heads (next_unary Records)) u
unfolding next_unary unary unit record_unit word_unit led range_led word_led mark_leaf exact regex greater less star
record_first u = within (any other_starts) (first heads (next_unary Records)) u refl refl

row_first : (u : List (Token Bytes)) → (next (any other_starts) u || next (any (CurlyOpen ∷ [])) u)
    ≡ next (first heads (next_unary Rows)) u
unfolding next_unary unary unit row_unit selector word_unit led range_led word_led mark_leaf exact regex greater less
    star
row_first u =
    sym (next_append (any other_starts) (any (CurlyOpen ∷ [])) u)
    ∙ within (any other_starts ++ any (CurlyOpen ∷ [])) (first heads (next_unary Rows)) u refl refl

pub row_then : (u : List (Token Bytes)) → next (any other_starts) u ≡ true
    → true ≡ next (first heads (next_unary Rows)) u
row_then u e = sym (ap (λ (b : Bool). b || next (any (CurlyOpen ∷ [])) u) e) ∙ row_first u

pub row_else : (u : List (Token Bytes)) → next (any other_starts) u ≡ false
    → next (any (CurlyOpen ∷ [])) u ≡ next (first heads (next_unary Rows)) u
row_else u e = sym (ap (λ (b : Bool). b || next (any (CurlyOpen ∷ [])) u) e) ∙ row_first u
