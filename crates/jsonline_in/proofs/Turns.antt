-- Reading one after another, as long as there is one more.
use Rattle.std.proofs.Common.{◌≡◌, ℕ, zero, suc, ◌<◌, List, [], ◌++◌, length, Option, Some, None, Result, Ok, Err}
use Rattle.std.proofs.Common.{refl, sym, ap, subst, arith}
use Rattle.std.proofs.lemmas.List.{append-nil}
use Rattle.jsonline_in.specs.Reading.{Fault, Reader, ◌>>=◌, turn, turns}
use Rattle.jsonline_in.proofs.Good.{Reach, shallow, any, GoodAt, Good, good_same, Joins, good_both_at, good_gives}
use Rattle.jsonline_in.proofs.Good.{good_made_at}

module _ {A B : Type 0} (put : A → B → B) (end : B) (one : Reader (Option A)) where
  abbrev pub all_turns : Reader B
  all_turns bytes = turns put end one (suc (length bytes)) bytes

  -- each turn takes a byte or more
  abbrev pub Shrinks : Type 0
  Shrinks = (bytes : List ℕ) (x : A) (rest : List ℕ) → one bytes ≡ Ok (Some x, rest) → length rest < length bytes

  module _ (shrinks : Shrinks) where
    -- one turn is the same, where what is shorter is read the same
    same_turn : (a b : Reader B) (bytes : List ℕ) → ((rest : List ℕ) → length rest < length bytes → a rest ≡ b rest)
        → (result : Result (Option A × List ℕ) Fault) → one bytes ≡ result
        → (result >>= turn put end a) ≡ (result >>= turn put end b)
    same_turn a b bytes same (Err fault) e = refl
    same_turn a b bytes same (Ok (None, rest)) e = refl
    same_turn a b bytes same (Ok (Some x, rest)) e = ap (λ (o : Result (B × List ℕ) Fault). o >>= λ xs. Ok
        (put x xs.0, xs.1)) (same rest (shrinks bytes x rest e))

    pub enough : (n m : ℕ) (bytes : List ℕ) → length bytes < n → length bytes < m
        → turns put end one n bytes ≡ turns put end one m bytes
    unfolding turns
    enough zero m bytes h k = absurd (omega arith)
    enough (suc n) zero bytes h k = absurd (omega arith)
    enough (suc n) (suc m) bytes h k = same_turn (turns put end one n) (turns put end one m) bytes
        (λ rest less. enough n m rest (omega arith) (omega arith)) (one bytes) refl

    pub unrolled : (bytes : List ℕ) → all_turns bytes ≡ (one bytes >>= turn put end all_turns)
    unfolding turns
    unrolled bytes = same_turn (turns put end one (length bytes)) all_turns bytes
        (λ rest less. enough (length bytes) (suc (length rest)) rest less (omega arith)) (one bytes) refl

    module _ (P : Reach → Option A → List ℕ → Type 0) (R : Reach → B → List ℕ → Type 0)
        (stop : (reach : Reach) (text : List ℕ) → P reach None text → R reach end text)
        (push : (reach : Reach) (x : A) (a : List ℕ) (xs : B) (b : List ℕ) → P reach (Some x) a → R reach xs b
        → R reach (put x xs) (a ++ b))
        (widen : (o : Option A) (a : List ℕ) → P shallow o a → P any o a)
        (sample : (reach : Reach) → (xs : B) × (text : List ℕ) × R reach xs text)
        (good : Good P one) where
      -- what follows a turn
      abbrev Behind : Option A → Reach → B → List ℕ → Type 0
      Behind None reach ys b = (ys ≡ end) × (b ≡ [])
      Behind (Some x) reach ys b = (xs : B) × (ys ≡ put x xs) × R reach xs b

      joined : (reach : Reach) (o : Option A) (a : List ℕ) (ys : B) (b : List ℕ) → P reach o a → Behind o reach ys b
          → R reach ys (a ++ b)
      joined reach None a ys b p q =
          let at_end : R reach end (a ++ []) = subst (R reach end) (sym (append-nil a)) (stop reach a p) in
          subst (λ (t : List ℕ). R reach ys (a ++ t)) (sym q.1)
          (subst (λ (y : B). R reach y (a ++ [])) (sym q.0) at_end)
      joined reach (Some x) a ys b p q = subst (λ (y : B). R reach y (a ++ b)) (sym q.1) (push reach x a q.0 b p q.2)

      some_behind : (reach : Reach) (o : Option A) (a : List ℕ) → P reach o a → (y : B) × (b : List ℕ)
          × Behind o reach y b
      some_behind reach None a p = (end, [], (refl, refl))
      some_behind reach (Some x) a p = let s = sample reach in (put x s.0, s.1, (s.0, refl, s.2))

      joins : Joins P Behind R
      joins = record { join = joined; widen = widen; some = some_behind }

      abbrev next : Option A → Reader B
      next o rest = turn put end all_turns (o, rest)

      each : (bytes : List ℕ) → ((rest : List ℕ) → length rest < length bytes
          → GoodAt R all_turns rest (all_turns rest)) → (o : Option A) (rest : List ℕ) → one bytes ≡ Ok (o, rest)
          → GoodAt (Behind o) (next o) rest (next o rest)
      each bytes shorter None rest e = good_gives (Behind None) end (refl, refl) rest
      each bytes shorter (Some x) rest e = good_made_at R (Behind (Some x)) (put x) all_turns
          (λ reach xs text r. (xs, refl, r)) rest (shorter rest (shrinks bytes x rest e))

      good_within : (n : ℕ) (bytes : List ℕ) → length bytes < n → GoodAt R all_turns bytes (all_turns bytes)
      good_within zero bytes h = absurd (omega arith)
      good_within (suc n) bytes h =
          good_same R all_turns (λ bytes. one bytes >>= λ x. next x.0 x.1) unrolled bytes
          (good_both_at P Behind R joins one next bytes (good bytes)
          (each bytes (λ rest less. good_within n rest (omega arith))))

      pub good_turns : Good R all_turns
      good_turns bytes = good_within (suc (length bytes)) bytes (omega arith)
