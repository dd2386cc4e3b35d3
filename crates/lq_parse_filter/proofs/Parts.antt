-- The parts of a run, one after another.
use Rattle.std.proofs.Common.{◌≡◌, ◌<◌, ℕ, suc, Bool, true, false, cond, List, ◌∷◌, ◌++◌, flat_map, length, Ok, Err}
use Rattle.std.proofs.Common.{refl, sym, ap, ◌∙◌, append_assoc}
use Rattle.std.proofs.lemmas.Bool.{cond-true}
use Rattle.std.proofs.lemmas.List.{append-nil}
use Rattle.grammar.specs.Rule.{Token, Class, has, next, unless}
use Rattle.grammar.specs.Spelling.{◌>>=◌}
use Rattle.grammar.specs.Reading.{Answer, stuck, mapped}
use Rattle.grammar.proofs.Turns.{no_turn, one_turn}
use Rattle.grammar.proofs.Whole.{takes}
use Rattle.lq_grammar.specs.Roles.{glued, run_parts}
use Rattle.lq_grammar.specs.Values.{Bytes, Reason}
use Rattle.lq_grammar.specs.LogsQL.{logsql, text, run_rest}
use Rattle.lq_grammar.specs.Clauses.{at, all_at}

abbrev Tokens : Type 0
Tokens = List (Token Bytes)

abbrev class : Class
class = glued run_parts

abbrev flat : List Bytes → Bytes
flat parts = flat_map (λ part. part) parts

abbrev joined : Bytes → Answer Bytes Reason (List Bytes) → Answer Bytes Reason Bytes
joined run r = mapped (λ parts. run ++ flat parts) r

abbrev found : Bytes → Tokens → Answer Bytes Reason Bytes
found x w = Ok (x, w)

abbrev marked : Tokens → Answer Bytes Reason (Unit {0})
marked w = Ok (tt, w)

text_read : (depth : ℕ) (u rest : Tokens) (x : Bytes) → (t : Token Bytes) × (u ≡ t ∷ rest) × (has class t ≡ true)
    × (x ≡ t.content) → (at depth (text class) u ≡ Ok (x, rest)) × (next class u ≡ true)
text_read depth u rest x (t, is, h, e) = (
  ap (at depth (text class)) is ∙ cond-true (has class t) (Ok (t.content, rest)) (Err (stuck (suc (length rest)))) h
      ∙ ap (λ (y : Bytes). found y rest) (sym e),
  ap (next class) is ∙ h,
)

pub part_more : (depth : ℕ) (run longer : Bytes) (u rest : Tokens) (x : Bytes) (whole : Answer Bytes Reason Bytes)
    → (t : Token Bytes) × (u ≡ t ∷ rest) × (has class t ≡ true) × (x ≡ t.content) → longer ≡ run ++ x
    → joined run (all_at depth (text class) u) ≡ whole → joined longer (all_at depth (text class) rest) ≡ whole
part_more depth run longer u rest x whole stands e before =
    let r = text_read depth u rest x stands in
    ap (λ (l : Bytes). joined l (all_at depth (text class) rest)) e
    ∙ sym (ap (joined run) (one_turn logsql depth (text class) refl u x rest r.1 r.0)
    ∙ by_case (all_at depth (text class) rest)) ∙ before
  where
    by_case : (r : Answer Bytes Reason (List Bytes)) → joined run (r >>= λ xs. Ok (x ∷ xs.0, xs.1))
        ≡ joined (run ++ x) r
    by_case (Ok xs) = ap (λ (l : Bytes). found l xs.1) (sym (append_assoc run x (flat xs.0)))
    by_case (Err stop) = refl

pub part_shorter : (depth : ℕ) (u rest : Tokens) (x : Bytes)
    → (t : Token Bytes) × (u ≡ t ∷ rest) × (has class t ≡ true) × (x ≡ t.content) → length rest < length u
part_shorter depth u rest x stands = takes logsql depth (text class) refl u x rest (text_read depth u rest x stands).0

-- a run that nothing goes on with is whole
abbrev again : Answer Bytes Reason (List Bytes) → Answer Bytes Reason (List Bytes)
again r = r >>= λ xs. Ok (xs.0, xs.1)

abbrev ending : ℕ → List Bytes × Tokens → Answer Bytes Reason Bytes
ending depth x = at depth (unless class (tt {0})) x.1 >>= λ y. Ok (flat x.0, y.1)

rest_read : (depth : ℕ) (u : Tokens) (items : Answer Bytes Reason (List Bytes)) → all_at depth (text class) u ≡ items
    → at depth run_rest u ≡ (again items >>= ending depth)
unfolding run_rest
rest_read depth u items e = ap (λ (r : Answer Bytes Reason (List Bytes)). again r >>= ending depth) e

pub run_whole : (depth : ℕ) (bare run : Bytes) (u rest : Tokens) → next class rest ≡ false
    → joined run (all_at depth (text class) rest) ≡ joined bare (all_at depth (text class) u)
    → mapped (λ r. bare ++ r) (at depth run_rest u) ≡ Ok (run, rest)
run_whole depth bare run u rest none same =
    by_items (all_at depth (text class) u) refl (sym same
    ∙ ap (joined run) (no_turn logsql depth (text class) refl rest none)
    ∙ ap (λ (l : Bytes). found l rest) (append-nil run))
  where
    text_is : (x y : Bytes) (v w : Tokens) → found x v ≡ found y w → (x ≡ y) × (v ≡ w)
    text_is x y v w e =
        let p : (x, v) ≡ (y, w) = cc in (ap (λ (q : Bytes × Tokens). q.0) p, ap (λ (q : Bytes × Tokens). q.1) p)

    by_items : (items : Answer Bytes Reason (List Bytes)) → all_at depth (text class) u ≡ items
        → joined bare items ≡ found run rest → mapped (λ r. bare ++ r) (at depth run_rest u) ≡ found run rest
    by_items (Err stop) e is = absurd cc
    by_items (Ok xs) e is =
        let p = text_is (bare ++ flat xs.0) run xs.1 rest is in
        let ends : next class xs.1 ≡ false = ap (next class) p.1 ∙ none in
        ap (mapped (λ r. bare ++ r)) (rest_read depth u (Ok xs) e)
        ∙ ap (λ (b : Bool). mapped (λ r. bare ++ r) (cond b (Err (stuck (length xs.1))) (marked xs.1)
        >>= λ y. Ok (flat xs.0, y.1))) ends
        ∙ is
