-- Which tokens say how many tuples TOP keeps.
use Rattle.std.proofs.Common.{◌≡◌, ℕ, Ok, List, [], ◌∷◌, ◌∙◌, true, false}
use Rattle.std.proofs.lemmas.Bool.{cond-true, cond-false}
use Rattle.grammar.specs.Rule.{Token, empty, next}
use Rattle.lq_grammar.specs.Clauses.{at}
use Rattle.lq_grammar.specs.LogsQL.{most, by_most, word_most, ◌|||◌}
use Rattle.lq_grammar.specs.Roles.{any, other_bares}
use Rattle.lq_grammar.specs.Values.{Bytes}
use Rattle.lq_grammar.specs.declared.role.Role.TheVariants.{By}

pub most_by : (depth : ℕ) (u : List (Token Bytes)) → next (any (By ∷ [])) u ≡ true
    → at depth most u ≡ at depth by_most u
unfolding most by_most
most_by depth u e =
    cond-true (next (any (By ∷ [])) u) (at depth by_most u) (at depth (word_most ||| empty 10) u) e

pub most_word : (depth : ℕ) (u : List (Token Bytes)) → next (any (By ∷ [])) u ≡ false
    → next (any other_bares) u ≡ true → at depth most u ≡ at depth word_most u
unfolding most by_most word_most
most_word depth u out e =
    cond-false (next (any (By ∷ [])) u) (at depth by_most u) (at depth (word_most ||| empty 10) u) out
    ∙ cond-true (next (any other_bares) u) (at depth word_most u) (Ok (10, u)) e

pub most_none : (depth : ℕ) (u : List (Token Bytes)) → next (any (By ∷ [])) u ≡ false
    → next (any other_bares) u ≡ false → at depth most u ≡ Ok (10, u)
unfolding most by_most word_most
most_none depth u out e =
    cond-false (next (any (By ∷ [])) u) (at depth by_most u) (at depth (word_most ||| empty 10) u) out
    ∙ cond-false (next (any other_bares) u) (at depth word_most u) (Ok (10, u)) e
