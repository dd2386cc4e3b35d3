use Rattle.std.proofs.Common.{◌≡◌, ◌++◌, List, ℕ, ◌≤◌, ◌<◌, drop, false, get_or, length, subst, sym, take, arith}
use Rattle.std.proofs.lemmas.List.{take_at}
use Rattle.matching_rows.specs.Found.{comes_before}
use Rattle.matching_rows.specs.declared.found.Found.{Found}
use Rattle.matching_rows.proofs.Orders.{already, sorted}
use Rattle.matching_rows.proofs.found.in_order.Goals as goal

pub returns-then-not-is_sorted-clause-sorted : goal.returns-then-not-is_sorted-clause-sorted
returns-then-not-is_sorted-clause-sorted c =
    let made = c.sort_unstable.new.self in
    let old = c.args.found in
    let long : length made ≡ old.len = omega (arith, c.sort_unstable.ensures.len, c.as_mut_slice.ensures.len) in
    let is : take old.len (made ++ drop (length made) old.items) ≡ made = take_at made _ old.len long in
    let P : List Found → Type 0 = λ l. (i j : ℕ) (d : Found) → i ≤ j → j < length l
    → comes_before (get_or l j d) (get_or l i d) ≡ false in
    subst P (sym is) (sorted made c.sort_unstable.ensures.sorted)

pub returns-else-not-is_sorted-clause-sorted : goal.returns-else-not-is_sorted-clause-sorted
returns-else-not-is_sorted-clause-sorted c =
    let P : List Found → Type 0 = λ l. (i j : ℕ) (d : Found) → i ≤ j → j < length l
    → comes_before (get_or l j d) (get_or l i d) ≡ false in
    subst P c.as_slice.ensures.value (already c.as_slice.result.now c.if-not-is_sorted.ensures.cases)
