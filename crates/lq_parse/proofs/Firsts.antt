-- Which tokens a rule begins with.
use Rattle.std.proofs.Common.{◌≡◌, ℕ, Ok, Bool, true, false, List, [], ◌∷◌, refl, sym, ◌∙◌}
use Rattle.std.proofs.lemmas.Bool.{cond-true, cond-false}
use Rattle.grammar.specs.Rule.{Token, Class, empty, next}
use Rattle.grammar.specs.Reading.{first}
use Rattle.grammar.proofs.Sets.{inside, inside_next}
use Rattle.lq_grammar.specs.Clauses.{at}
use Rattle.lq_grammar.specs.LogsQL.{heads, counted, names, row_pipe, next_factor, factor_op, next_term, sum_op, ◌|||◌}
use Rattle.lq_grammar.specs.Roles.{any, words}
use Rattle.lq_grammar.specs.Values.{Bytes}
use Rattle.lq_grammar.specs.declared.role.Role.TheVariants.{Extract, Format, Len, Math, Star, Div, Mod, Plus, Minus}

abbrev Tokens : Type 0
Tokens = List (Token Bytes)

-- ---- the fields of COUNT

pub counted_some : (depth : ℕ) (u : Tokens) → next (any (Star ∷ [])) u ≡ false → next (any words) u ≡ true
    → at depth counted u ≡ at depth names u
unfolding counted names
counted_some depth u out e =
    cond-false (next (any (Star ∷ [])) u) _ (at depth (names ||| empty []) u) out
    ∙ cond-true (next (any words) u) (at depth names u) (Ok ([], u)) e

pub counted_none : (depth : ℕ) (u : Tokens) → next (any (Star ∷ [])) u ≡ false → next (any words) u ≡ false
    → at depth counted u ≡ Ok ([], u)
unfolding counted names
counted_none depth u out e =
    cond-false (next (any (Star ∷ [])) u) _ (at depth (names ||| empty []) u) out
    ∙ cond-false (next (any words) u) (at depth names u) (Ok ([], u)) e

-- ---- rules of several words and marks

same_next : (a b : Class) (u : Tokens) → inside a b ≡ true → inside b a ≡ true → next a u ≡ next b u
same_next a b u there back = by_test (next a u) refl (next b u) refl
  where
    by_test : (x : Bool) → next a u ≡ x → (y : Bool) → next b u ≡ y → x ≡ y
    by_test true e true f = refl
    by_test false e false f = refl
    by_test true e false f = sym (inside_next a b u there e) ∙ f
    by_test false e true f = sym e ∙ inside_next b a u back f

pub row_first : (u : Tokens) → next (first heads row_pipe) u ≡ next (any (Extract ∷ Format ∷ Len ∷ Math ∷ [])) u
unfolding row_pipe
row_first u = same_next (first heads row_pipe) (any (Extract ∷ Format ∷ Len ∷ Math ∷ [])) u refl refl

abbrev pub factor_class : Class
factor_class = any (Star ∷ Div ∷ Mod ∷ [])

pub factor_first : (u : Tokens) → next (first heads next_factor) u ≡ next factor_class u
unfolding next_factor factor_op
factor_first u = same_next (first heads next_factor) factor_class u refl refl

abbrev pub term_class : Class
term_class = any (Plus ∷ Minus ∷ [])

pub term_first : (u : Tokens) → next (first heads next_term) u ≡ next term_class u
unfolding next_term sum_op
term_first u = same_next (first heads next_term) term_class u refl refl
