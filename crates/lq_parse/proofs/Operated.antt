-- Operands of an expression, and operations one after another.
use Rattle.std.proofs.Common.{◌≡◌, ℕ, suc, true, false, List, ◌∷◌, length, Ok, Err, refl, sym, ap, ◌∙◌}
use Rattle.std.proofs.lemmas.Bool.{cond-true}
use Rattle.grammar.specs.Rule.{Token, Class, has, next}
use Rattle.grammar.specs.Spelling.{◌>>=◌}
use Rattle.grammar.specs.Reading.{Answer, Stop, stuck, mapped, nullable, first, one_at}
use Rattle.grammar.proofs.Turns as turns
use Rattle.lq_ast.specs.Making.{Expression, two}
use Rattle.lq_ast.specs.declared.row_pipe.Op.{Op}
use Rattle.lq_grammar.specs.Roles.{any, atom_bares}
use Rattle.lq_grammar.specs.Values.{Bytes, Reason, Operand, bare_value, operated}
use Rattle.lq_grammar.specs.LogsQL.{Parse, heads, logsql, factor_op, next_factor, sum_op, next_term, atom}
use Rattle.lq_grammar.specs.Clauses.{at, all_at}
use Rattle.lq_parse.proofs.Firsts.{factor_class, factor_first, term_class, term_first}

abbrev Tokens : Type 0
Tokens = List (Token Bytes)

abbrev found : Expression → Tokens → Answer Bytes Reason Expression
found x w = Ok (x, w)

-- what the operations after the first operand make of it
abbrev pub gathered : Expression → Answer Bytes Reason (List Operand) → Answer Bytes Reason Expression
gathered left r = mapped (operated left) r

-- a rule that begins with a token of the class, and never is empty
module _ (depth : ℕ) (e : Parse Operand) (class : Class) (some : nullable e ≡ false)
    (begins : (u : Tokens) → next (first heads e) u ≡ next class u) (left : Expression) where
  fold_end : (u : Tokens) → next class u ≡ false → gathered left (all_at depth e u) ≡ Ok (left, u)
  fold_end u h = ap (gathered left) (turns.no_turn logsql depth e some u (begins u ∙ h))

  fold_bad : (u : Tokens) (stop : Stop Reason) → next class u ≡ true → at depth e u ≡ Err stop
      → gathered left (all_at depth e u) ≡ Err stop
  fold_bad u stop h is = ap (gathered left) (turns.bad_turn logsql depth e some u stop (begins u ∙ h) is)

  -- what a loop keeps that takes each operation
  pub fold_more : (longer : Expression) (u : Tokens) (op : Op) (right : Expression) (w : Tokens)
      (whole : Answer Bytes Reason Expression) → next class u ≡ true → at depth e u ≡ Ok ((op, right), w)
      → longer ≡ two op left right → gathered left (all_at depth e u) ≡ whole
      → gathered longer (all_at depth e w) ≡ whole
  fold_more longer u op right w whole h is same before =
      ap (λ (l : Expression). gathered l (all_at depth e w)) same ∙ sym (by_case (all_at depth e w))
      ∙ sym (ap (gathered left) (turns.one_turn logsql depth e some u (op, right) w (begins u ∙ h) is)) ∙ before
    where
      by_case : (r : Answer Bytes Reason (List Operand))
          → gathered left (r >>= λ xs. Ok ((op, right) ∷ xs.0, xs.1)) ≡ gathered (two op left right) r
      by_case (Ok xs) = refl
      by_case (Err stop) = refl

-- ---- products

pub factor_some : nullable next_factor ≡ false
unfolding next_factor factor_op
factor_some = refl

pub factor_end : (depth : ℕ) (left : Expression) (u : Tokens) → next factor_class u ≡ false
    → gathered left (all_at depth next_factor u) ≡ Ok (left, u)
factor_end depth left u h = fold_end depth next_factor factor_class factor_some factor_first left u h

pub factor_bad : (depth : ℕ) (left : Expression) (u : Tokens) (stop : Stop Reason) → next factor_class u ≡ true
    → at depth next_factor u ≡ Err stop → gathered left (all_at depth next_factor u) ≡ Err stop
factor_bad depth left u stop h is = fold_bad depth next_factor factor_class factor_some factor_first left u stop h is

pub ruleset factor_steps = (factor_end, factor_bad)

-- ---- sums

pub term_some : nullable next_term ≡ false
unfolding next_term sum_op
term_some = refl

pub term_end : (depth : ℕ) (left : Expression) (u : Tokens) → next term_class u ≡ false
    → gathered left (all_at depth next_term u) ≡ Ok (left, u)
term_end depth left u h = fold_end depth next_term term_class term_some term_first left u h

pub term_bad : (depth : ℕ) (left : Expression) (u : Tokens) (stop : Stop Reason) → next term_class u ≡ true
    → at depth next_term u ≡ Err stop → gathered left (all_at depth next_term u) ≡ Err stop
term_bad depth left u stop h is = fold_bad depth next_term term_class term_some term_first left u stop h is

pub ruleset term_steps = (term_end, term_bad)

-- ---- operands

pub word_read : (depth : ℕ) (u rest : Tokens) (word : Bytes)
    → (t : Token Bytes) × (u ≡ t ∷ rest) × (has (any atom_bares) t ≡ true) × (word ≡ t.content)
    → at depth atom u ≡ Ok (bare_value word, rest)
unfolding atom
word_read depth u rest word (t, is, h, e) =
    ap (at depth atom) is
    ∙ cond-true (has (any atom_bares) t) (one_at (any atom_bares) (λ t. bare_value t.content) (t ∷ rest)) _ h
    ∙ cond-true (has (any atom_bares) t) (Ok (bare_value t.content, rest)) (Err (stuck (suc (length rest)))) h
    ∙ ap (λ (w : Bytes). found (bare_value w) rest) (sym e)
