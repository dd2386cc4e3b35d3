-- Whole lines, and what comes after them.
use Rattle.std.proofs.Common.{◌≡◌, inl, inr, ℕ, ◌+◌, ◌<◌, ◌≤◌, true, false, cond, eqb, List, [], ◌∷◌, ◌++◌, length}
use Rattle.std.proofs.Common.{refl, ap, sym, subst, ◌∙◌, arith}
use Rattle.std.proofs.lemmas.List.Sums.{sum_by-cons}
use Rattle.std.specs.Prelude.{count_by}
use Rattle.log_model.specs.Line.{lines_of, onto}
use Rattle.vl_io.specs.Lines.{AreLines, is_feed}
use Rattle.vl_pipe.specs.Groups.{EndsLine}

some_lines : (x : ℕ) (xs : List ℕ) → 0 < length (lines_of (x ∷ xs))
unfolding lines_of
some_lines x xs = elim (eqb x 10) as
    (λ t. 0 < length (cond t ([] ∷ lines_of xs) (onto x (lines_of xs)))) [
      | true ↦ omega arith
      | false ↦ some_onto x
          (lines_of xs)
    ]
  where
    some_onto : (byte : ℕ) (lines : List (List ℕ)) → 0 < length (onto byte lines)
    some_onto byte [] = omega arith
    some_onto byte (line ∷ lines) = omega arith

onto-append : (x : ℕ) (lines others : List (List ℕ)) → 0 < length lines → onto x (lines ++ others) ≡ onto x lines
    ++ others
onto-append x [] others some = absurd (omega arith)
onto-append x (line ∷ lines) others some = refl

length-onto : (x : ℕ) (lines : List (List ℕ)) → 0 < length lines → length (onto x lines) ≡ length lines
length-onto x [] some = absurd (omega arith)
length-onto x (line ∷ lines) some = refl

some_ended : (front : List ℕ) → 0 < length (lines_of (front ++ 10 ∷ []))
some_ended [] = some_lines 10 []
some_ended (x ∷ front) = some_lines x (front ++ 10 ∷ [])

lines_of-ended : (front rest : List ℕ) → lines_of ((front ++ 10 ∷ []) ++ rest) ≡ lines_of (front ++ 10 ∷ [])
    ++ lines_of rest
unfolding lines_of
lines_of-ended [] rest = refl
lines_of-ended (x ∷ front) rest =
    let more = lines_of-ended front rest in
    let feed : [] ∷ lines_of ((front ++ 10 ∷ []) ++ rest) ≡ ([] ∷ lines_of (front ++ 10 ∷ [])) ++ lines_of rest = ap
    (λ ls. [] ∷ ls) more in
    let other : onto x (lines_of ((front ++ 10 ∷ []) ++ rest)) ≡ onto x (lines_of (front ++ 10 ∷ [])) ++ lines_of rest =
    ap (onto x) more ∙ onto-append x (lines_of (front ++ 10 ∷ [])) (lines_of rest) (some_ended front) in
    elim (eqb x 10) as
    (λ t. cond t ([] ∷ lines_of ((front ++ 10 ∷ []) ++ rest)) (onto x (lines_of ((front ++ 10 ∷ []) ++ rest)))
    ≡ cond t ([] ∷ lines_of (front ++ 10 ∷ [])) (onto x (lines_of (front ++ 10 ∷ []))) ++ lines_of rest) [
      | true ↦
          feed
      | false ↦ other
    ]

-- whole lines come first
pub lines_of-after : (bytes rest : List ℕ) → EndsLine bytes → lines_of (bytes ++ rest) ≡ lines_of bytes ++ lines_of rest
unfolding lines_of
lines_of-after bytes rest (inl none) = subst (λ bs. lines_of (bs ++ rest) ≡ lines_of bs ++ lines_of rest)
    (sym none) refl
lines_of-after bytes rest (inr ends) = subst (λ bs. lines_of (bs ++ rest) ≡ lines_of bs ++ lines_of rest) (sym ends.1)
    (lines_of-ended ends.0 rest)

length-lines_of-ended : (front : List ℕ) → length (lines_of (front ++ 10 ∷ [])) ≡ count_by is_feed (front ++ 10 ∷ [])
unfolding lines_of
length-lines_of-ended [] = refl
length-lines_of-ended (x ∷ front) =
    let more = length-lines_of-ended front in
    let whole = sum_by-cons (λ b. cond (is_feed b) 1 0) x (front ++ 10 ∷ []) in
    let feed : length ([] ∷ lines_of (front ++ 10 ∷ [])) ≡ 1 + count_by is_feed (front ++ 10 ∷ []) = omega
    (arith, more) in
    let other : length (onto x (lines_of (front ++ 10 ∷ []))) ≡ 0 + count_by is_feed (front ++ 10 ∷ []) =
    omega (arith, length-onto x (lines_of (front ++ 10 ∷ [])) (some_ended front), more) in
    elim (eqb x 10) as
    (λ t. length (cond t ([] ∷ lines_of (front ++ 10 ∷ [])) (onto x (lines_of (front ++ 10 ∷ []))))
    ≡ cond t 1 0 + count_by is_feed (front ++ 10 ∷ [])) [ true ↦ feed | false ↦ other ]
    ∙ sym whole

-- this many whole lines
pub length-lines_of : (count : ℕ) (bytes : List ℕ) → AreLines count bytes → length (lines_of bytes) ≡ count
length-lines_of count bytes are =
    ap (λ bs. length (lines_of bs)) are.ends ∙ length-lines_of-ended are.front ∙ ap (count_by is_feed) (sym are.ends)
    ∙ are.feeds

onto_few : (x : ℕ) (lines : List (List ℕ)) (n : ℕ) → length lines ≤ n + 1 → length (onto x lines) ≤ n + 1
onto_few x [] n few = omega arith
onto_few x (line ∷ lines) n few = few

-- a line more than there are line feeds, at most
pub lines_few : (bytes : List ℕ) → length (lines_of bytes) ≤ count_by is_feed bytes + 1
unfolding lines_of
lines_few [] = omega arith
lines_few (x ∷ xs) =
    let more = lines_few xs in
    let feed : length ([] ∷ lines_of xs) ≤ (1 + count_by is_feed xs) + 1 = omega (arith, more) in
    let other : length (onto x (lines_of xs)) ≤ (0 + count_by is_feed xs) + 1 = onto_few x (lines_of xs)
    (0 + count_by is_feed xs) (omega (arith, more)) in
    rw (sum_by-cons (λ b. cond (is_feed b) 1 0) x xs)
    (elim (eqb x 10) as
    (λ t. length (cond t ([] ∷ lines_of xs) (onto x (lines_of xs))) ≤
    (cond t 1 0 + count_by is_feed xs) + 1) [ true ↦ feed | false ↦ other ])

pub lines_some : (bytes : List ℕ) → 0 < length bytes → 0 < length (lines_of bytes)
lines_some [] some = absurd (omega arith)
lines_some (x ∷ xs) some = some_lines x xs
