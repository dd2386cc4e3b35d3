-- What one turn adds to what a pass has seen.
use Rattle.std.proofs.Common.{◌≡◌, ℕ, ◌+◌, ◌<◌, List, [], ◌∷◌, ◌++◌, length, refl, ap, ◌∙◌, arith}
use Rattle.std.proofs.Common.{append_assoc, length-append}
use Rattle.std.specs.Prelude.{All, ◌⊎◌}
use Rattle.std.proofs.Common.{inl, inr}
use Rattle.std.proofs.lemmas.List.Elements.{All-nil, All-cons, All-append}
use Rattle.std.proofs.lemmas.Bool.Decides.{nat_tests}
use Rattle.turn_lock.specs.declared.view.Entry.{Entry}
use Rattle.turn_lock.specs.Totals.{times}
use Rattle.turn_lock.specs.Entries.{whats, made, maker_of, IsStranger, AreStrangers, Continues}
use Rattle.turn_lock.specs.Passes.{LockId, PassState, IsPassOf, Finds, mine, committed, after_turn}
use Rattle.turn_lock.proofs.Sums.{times-append}
use Rattle.turn_lock.proofs.Laws.{length-whats, each_stranger, numbers-found, mine-left-committed}
use Rattle.turn_lock_tests.specs.Log.{last_of}
use Rattle.turn_lock_tests.specs.OneTurn.{GoesOn, StandsAt}

-- each of other callers' entries is this one or another caller's
strangers_too : (passes : ℕ) (ns : List ℕ) (own : Entry ℕ) (es : List (Entry ℕ)) → AreStrangers passes ns es
    → All (λ e. (e ≡ own) ⊎ IsStranger passes ns e) es
strangers_too passes ns own es s = λ k d lt. inr (each_stranger passes ns es s k d lt)

-- A turn without a commit adds other callers' entries only.
pub goes_on-found : (own : Entry ℕ) (p q r : PassState ℕ) → Finds p q → r ≡ after_turn q → GoesOn own p r
goes_on-found own p q r f e =
    let c = f.knows in
    record {
      rest = c.rest;
      begins = ap (λ s. s.seen) e ∙ c.begins;
      added = strangers_too p.lock.passes p.numbers own c.rest c.strangers;
    }

-- A commit of x is the last entry, and the pass's own.
pub last-committed : (x y : ℕ) (p q r : PassState ℕ) → Finds p q → r ≡ after_turn (committed y q) → y ≡ x
    → r.seen ≡ q.seen ++ made (maker_of p.numbers) x ∷ []
last-committed x y p q r f e same =
    ap (λ s. s.seen) e ∙ ap (λ ns. q.seen ++ made (maker_of ns) y ∷ []) (numbers-found p q f) ∙ ap
    (λ z. q.seen ++ made (maker_of p.numbers) z ∷ []) same

-- A turn with a commit adds other callers' entries and the pass's own.
pub goes_on-committed : (x y : ℕ) (p q r : PassState ℕ) → Finds p q → r ≡ after_turn (committed y q) → y ≡ x
    → GoesOn (made (maker_of p.numbers) x) p r
goes_on-committed x y p q r f e same =
    let c = f.knows in
    let own : Entry ℕ = made (maker_of p.numbers) x in
    let P : Entry ℕ → Type 0 = λ e. (e ≡ own) ⊎ IsStranger p.lock.passes p.numbers e in
    record {
      rest = c.rest ++ own ∷ [];
      begins = last-committed x y p q r f e same ∙ ap (λ l. l ++ own ∷ []) c.begins ∙ append_assoc p.seen c.rest
          (own ∷ []);
      added = All-append P c.rest (own ∷ []) (strangers_too p.lock.passes p.numbers own c.rest c.strangers)
          (All-cons P own [] (inl refl) (All-nil P));
    }

times_self : (n : ℕ) → times n (n ∷ []) ≡ 1
times_self n = grind (arith, nat_tests)

-- The place that a list of places ends with is among them.
pub times_last : (places before : List ℕ) (k : ℕ) → places ≡ before ++ k ∷ [] → 0 < times k places
times_last places before k e = rw e (omega (arith, times-append k before (k ∷ []), times_self k))

-- What a turn with a commit does, where it answers how many entries were then seen.
pub record Inserted (x k : ℕ) (p q r : PassState ℕ) : Type 0 where
  pub adds : GoesOn (made (maker_of p.numbers) x) p r
  pub counted : length r.seen ≡ k
  pub last : r.seen ≡ q.seen ++ made (maker_of p.numbers) x ∷ []
  pub mine_grew : mine r ≡ mine p ++ k ∷ []

-- The log then is what it was and its last number, x, and k is its length.
pub inserted : (l : LockId) (x k : ℕ) (log : List ℕ) (p q r : PassState ℕ) → IsPassOf l p → Finds p q
    → r ≡ after_turn (committed (last_of log) q) → (log ≡ whats q.seen ++ (last_of log) ∷ []) × (last_of log ≡ x)
    → k ≡ length log → Inserted x k p q r
inserted l x k log p q r is f e logged count =
    let own : Entry ℕ = made (maker_of p.numbers) x in
    let last : r.seen ≡ q.seen ++ own ∷ [] = last-committed x (last_of log) p q r f e logged.1 in
    let size : length log ≡ length (whats q.seen ++ (last_of log) ∷ []) = ap length logged.0 in
    let as_long : length (whats q.seen) ≡ length q.seen = length-whats q.seen in
    let place : length q.seen + 1 ≡ k = omega (arith, length-append (whats q.seen) ((last_of log) ∷ [])) in
    record {
      adds = goes_on-committed x (last_of log) p q r f e logged.1;
      counted = ap length last ∙ length-append q.seen (own ∷ []) ∙ place;
      last = last;
      mine_grew = mine-left-committed l (last_of log) p q r is f e ∙ ap (λ n. mine p ++ n ∷ []) place;
    }

-- The last entry stands at its place when the history goes on.
pub stands_on : (x k passes n : ℕ) (ns : List ℕ) (before seen history : List (Entry ℕ)) → length seen ≡ k
    → seen ≡ before ++ made n x ∷ [] → Continues passes ns seen history → StandsAt x k history
stands_on x k passes n ns before seen history size last c =
    let sizes : length seen ≡ length (before ++ made n x ∷ []) = ap length last in
    record {
      before = before;
      entry = made n x;
      after = c.rest;
      is = c.begins ∙ ap (λ l. l ++ c.rest) last ∙ append_assoc before (made n x ∷ []) c.rest;
      number = refl;
      place = omega (arith, length-append before (made n x ∷ []));
    }
