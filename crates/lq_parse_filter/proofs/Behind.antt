-- A rule after a token, as a loop reads it.
use Rattle.std.proofs.Common.{◌≡◌, ℕ, suc, ◌<◌, Bool, true, cond, List, [], ◌∷◌, ◌++◌, length, Ok, Err, refl, ap, ◌∙◌}
use Rattle.grammar.specs.Rule.{Token, Class, has, next}
use Rattle.grammar.specs.Spelling.{◌>>=◌}
use Rattle.grammar.specs.Reading.{Answer, stuck, mapped, first}
use Rattle.grammar.proofs.Whole.{takes}
use Rattle.grammar.proofs.Turns.{list_step}
use Rattle.lq_grammar.specs.Values.{Bytes, Reason}
use Rattle.lq_grammar.specs.LogsQL.{Parse, logsql, behind}
use Rattle.lq_grammar.specs.Clauses.{at, all_at}

abbrev Tokens : Type 0
Tokens = List (Token Bytes)

-- the token that stands there, as `past` tells it
abbrev pub Stands : Class → Tokens → Tokens → Type 0
Stands class u rest = (t : Token Bytes) × (u ≡ t ∷ rest) × (has class t ≡ true)

abbrev marked : Tokens → Answer Bytes Reason (Unit {0})
marked l = Ok (tt, l)

again_ok : {A : Type 0} (r : Answer Bytes Reason A) → (r >>= λ x. Ok (x.0, x.1)) ≡ r
again_ok (Ok x) = refl
again_ok (Err e) = refl

pub behind_read : {A : Type 0} (depth : ℕ) (class : Class) (rule : Parse A) (u rest : Tokens) → Stands class u rest
    → at depth (behind class rule) u ≡ at depth rule rest
behind_read depth class rule u rest (t, is, h) =
    ap (at depth (behind class rule)) is
    ∙ ap (λ (b : Bool). cond b (marked rest) (Err (stuck (suc (length rest)))) >>= λ x. at depth rule x.1
    >>= λ y. Ok (y.0, y.1)) h
    ∙ again_ok (at depth rule rest)

pub next_read : (class : Class) (u rest : Tokens) → Stands class u rest → next class u ≡ true
next_read class u rest (t, is, h) = ap (next class) is ∙ h

-- one more item after a token
pub item_more : {A : Type 0} (depth : ℕ) (class : Class) (rule : Parse A) (list longer : List A) (u rest : Tokens)
    (x : A) (w : Tokens) (whole : Answer Bytes Reason (List A)) → Stands class u rest → at depth rule rest ≡ Ok (x, w)
    → longer ≡ list ++ x ∷ []
    → mapped (λ xs. list ++ xs) (all_at depth (behind class rule) u) ≡ whole
    → mapped (λ xs. longer ++ xs) (all_at depth (behind class rule) w) ≡ whole
item_more depth class rule list longer u rest x w whole mark is same before =
    list_step logsql depth (behind class rule) list longer u x w whole refl
    (next_first class rule u (next_read class u rest mark))
    (behind_read depth class rule u rest mark ∙ is) same before
  where
    none : (k : Class) → k ++ [] ≡ k
    none [] = refl
    none (c ∷ k) = ap (λ (l : Class). c ∷ l) (none k)

    next_first : {A : Type 0} (class : Class) (rule : Parse A) (u : Tokens) → next class u ≡ true
        → next (first logsql.heads (behind class rule)) u ≡ true
    next_first class rule u e = ap (λ (k : Class). next k u) (none class) ∙ e

pub item_shorter : {A : Type 0} (depth : ℕ) (class : Class) (rule : Parse A) (u rest : Tokens) (x : A) (w : Tokens)
    → Stands class u rest → at depth rule rest ≡ Ok (x, w) → length w < length u
item_shorter depth class rule u rest x w mark is =
    takes logsql depth (behind class rule) refl u x w (behind_read depth class rule u rest mark ∙ is)
