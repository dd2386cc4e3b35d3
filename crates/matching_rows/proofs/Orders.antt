-- The order of what was found.
use Rattle.std.proofs.Common.{◌≡◌, ℕ, ◌+◌, ◌<◌, ◌≤◌, Bool, true, false, ◌&&◌, ◌||◌, ◌==◌, nat_lt, List, length, get_or}
use Rattle.std.proofs.Common.{Option, Some, arith}
use Rattle.std.proofs.lemmas.Bool.Decides.{nat_tests}
use Rattle.std.proofs.lemmas.List.Sorted.{sorted_far}
use Rattle.std.specs.Cmp.{IsStrictWeakOrder}
use Rattle.std.specs.Ordering.{is_le, is_lt, is_some_and, nat_cmp, ordering_then, partial_ordering_then}
use Rattle.std.specs.declared.cmp.Ordering.{Ordering}
use Rattle.matching_rows.specs.Found.{comes_before}
use Rattle.matching_rows.specs.declared.found.Found.{Found}

before : ℕ → ℕ → ℕ → ℕ → Bool
before a p b q = nat_lt a b || ((a == b) && nat_lt p q)

numbers_first : (a p b q : ℕ) (rest : Ordering)
    → is_lt (ordering_then (nat_cmp a b) (ordering_then (nat_cmp p q) rest)) ≡ false → before a p b q ≡ false
unfolding before
numbers_first a p b q rest e = grind (arith, nat_tests)

numbers_last : (a p b q : ℕ) (rest : Option Ordering)
    → is_some_and is_le (partial_ordering_then (Some (nat_cmp a b)) (partial_ordering_then (Some (nat_cmp p q)) rest))
    ≡ true → before b q a p ≡ false
unfolding before
numbers_last a p b q rest e = grind (arith, nat_tests)

one_way : (a p b q : ℕ) → before a p b q ≡ true → before b q a p ≡ false
unfolding before
one_way a p b q e = grind (arith, nat_tests)

chained : (a p b q c r : ℕ) → before a p b q ≡ false → before b q c r ≡ false → before a p c r ≡ false
unfolding before
chained a p b q c r e f = grind (arith, nat_tests)

order : IsStrictWeakOrder comes_before
unfolding before
order = record {
  one_way = λ x y h. one_way x.batch x.place y.batch y.place h;
  chain = λ x y z h k. chained x.batch x.place y.batch y.place z.batch z.place h k;
}

-- what `sort_unstable` gives is in order
pub sorted : (xs : List Found)
    → ((k : ℕ) (d : Found) → 0 ≤ k → k + 1 < length xs
    → is_lt (ordering_then (nat_cmp (get_or xs (k + 1) d).batch (get_or xs k d).batch)
    (ordering_then (nat_cmp (get_or xs (k + 1) d).place (get_or xs k d).place)
    (ordering_then (nat_cmp (get_or xs (k + 1) d).block (get_or xs k d).block)
    (nat_cmp (get_or xs (k + 1) d).row (get_or xs k d).row)))) ≡ false)
    → (i j : ℕ) (d : Found) → i ≤ j → j < length xs → comes_before (get_or xs j d) (get_or xs i d) ≡ false
unfolding before
sorted xs up i j d le within =
    sorted_far comes_before order xs
    (λ k e low inside. numbers_first (get_or xs (k + 1) e).batch (get_or xs (k + 1) e).place (get_or xs k e).batch
    (get_or xs k e).place _ (up k e low inside)) i j d le within

-- what `is_sorted` finds in order is in order
pub already : (xs : List Found)
    → ((k : ℕ) (d : Found) → k + 1 < length xs
    → is_some_and is_le (partial_ordering_then (Some (nat_cmp (get_or xs k d).batch (get_or xs (k + 1) d).batch))
    (partial_ordering_then (Some (nat_cmp (get_or xs k d).place (get_or xs (k + 1) d).place))
    (partial_ordering_then (Some (nat_cmp (get_or xs k d).block (get_or xs (k + 1) d).block))
    (Some (nat_cmp (get_or xs k d).row (get_or xs (k + 1) d).row))))) ≡ true)
    → (i j : ℕ) (d : Found) → i ≤ j → j < length xs → comes_before (get_or xs j d) (get_or xs i d) ≡ false
unfolding before
already xs up i j d le within =
    sorted_far comes_before order xs
    (λ k e low inside. numbers_last (get_or xs k e).batch (get_or xs k e).place (get_or xs (k + 1) e).batch
    (get_or xs (k + 1) e).place _ (up k e inside)) i j d le within
