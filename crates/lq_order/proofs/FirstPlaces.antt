-- The first of many places are found by the last one of them.
use Rattle.std.proofs.Common.{◌≡◌, ℕ, zero, suc, ◌+◌, ◌<◌, ◌≤◌, Bool, true, false, cond, List, [], ◌∷◌, ◌++◌, length}
use Rattle.std.proofs.Common.{Option, get_or, take, drop, refl, sym, ap, subst, ◌∙◌, arith}
use Rattle.std.proofs.lemmas.Fn.{always_returns_same}
use Rattle.std.proofs.lemmas.List.{drop-take, get_or-take, length-take}
use Rattle.std.proofs.lemmas.List.Kept.{AllPairs-from_increasing, IsStrictlyIncreasing-filter}
use Rattle.std.proofs.lemmas.List.Sorted.{length_permutation, sum_by-IsPermutation}
use Rattle.std.proofs.lemmas.List.Sums.{length-filter}
use Rattle.std.proofs.lemmas.Map.Keys.{IsDistinct-IsPermutation}
use Rattle.std.specs.Cmp.{IsTotalOrder, nat_cmp_is, tied_itself, upto}
use Rattle.std.specs.Fn.{Called, ComparesAs}
use Rattle.std.specs.List.{AllByRecursion, AllPairs, IsDistinct, count_by, filter, range_with_len}
use Rattle.std.specs.List.Sorted.{IsPermutation, IsSplitAroundBy, IsSplitAroundByClosure, IsStrictlyIncreasing}
use Rattle.std.specs.Ordering.{is_eq, is_gt, is_le, is_lt, nat_cmp, ordering_reverse, ordering_then, then_cmp}
use Rattle.std.specs.declared.cmp.Ordering.{Ordering}
use Rattle.std.specs.declared.cmp.Ordering.TheVariants.{Equal, Greater, Less}
use Rattle.lq_ast.proofs.Sorted.{Pairwise, all_from_places, all_sorted, all_weaker, is_gt_turned}
use Rattle.lq_ast.proofs.Sorted.{pairs_from_pairwise, permutation_sorted}
use Rattle.lq_ast.proofs.Sorted.{split_bool, weak_order}
use Rattle.lq_ast.specs.Sorting.{at_most}
use Rattle.lq_ast.specs.Tuples.{insert_by, sorted_by}
use Rattle.lq_tuple.proofs.Once.{count_cons, count_joined}
use Rattle.lq_order.specs.Column.{columns_cmp, is_up_to, placed_cmp}
use Rattle.lq_order.specs.First.{HasFirst}
use Rattle.lq_order.specs.Places.{IsWanted}
use Rattle.lq_order.specs.declared.column.Column.{Column}
use Rattle.lq_order.proofs.Leading.{count_all, count_none, take_sorted}
use Rattle.lq_order.proofs.Columns.{take_whole}
use Rattle.lq_order.proofs.Orders.{placed_cmp_total}
use denote.Param.Members.{Mut}
use denote.Ref.{Bor}

-- ---- places that rise

above : (n m : ℕ) (start : ℕ) → n < start → AllByRecursion (λ k. n < k) (range_with_len start m)
above n zero start h = tt
above n (suc m) start h = (h, above n m (start + 1) (omega arith))

pub range_rises : (start m : ℕ) → Pairwise ◌<◌ (range_with_len start m)
range_rises start zero = tt
range_rises start (suc m) = (above start m (start + 1) (omega arith), range_rises (start + 1) m)

all_filtered : {A : Type 0} (P : A → Type 0) (keep : A → Bool) (xs : List A) → AllByRecursion P xs
    → AllByRecursion P (filter keep xs)
all_filtered P keep [] h = tt
all_filtered P keep (x ∷ xs) h =
    elim (keep x) as (λ t. AllByRecursion P (cond t (x ∷ filter keep xs) (filter keep xs))) [
      | true ↦ (h.0, all_filtered P keep xs h.1)
      | false ↦ all_filtered P keep xs h.1
    ]

pub pairwise_filtered : {A : Type 0} (R : A → A → Type 0) (keep : A → Bool) (xs : List A) → Pairwise R xs
    → Pairwise R (filter keep xs)
pairwise_filtered R keep [] h = tt
pairwise_filtered R keep (x ∷ xs) h =
    elim (keep x) as (λ t. Pairwise R (cond t (x ∷ filter keep xs) (filter keep xs))) [
      | true ↦ (all_filtered (R x) keep xs h.0, pairwise_filtered R keep xs h.1)
      | false ↦ pairwise_filtered R keep xs h.1
    ]

-- ---- places that rise are put in the same order where those that are equal are compared themselves

module _ (order : ℕ → ℕ → Ordering) where
  earlier_first : (o : Ordering) (x y : ℕ) → x < y → is_gt (ordering_then o (nat_cmp x y)) ≡ is_gt o
  earlier_first Less x y h = refl
  earlier_first Equal x y h = ap is_gt (sym (nat_cmp_is x y Less h))
  earlier_first Greater x y h = refl

  inserted_placed : (x : ℕ) (ys : List ℕ) → AllByRecursion (λ y. x < y) ys
      → insert_by (then_cmp order nat_cmp) x ys ≡ insert_by order x ys
  inserted_placed x [] h = refl
  inserted_placed x (y ∷ ys) h =
      ap (λ t. cond t (y ∷ insert_by (then_cmp order nat_cmp) x ys) (x ∷ (y ∷ ys))) (earlier_first (order x y) x y h.0)
      ∙ ap (λ l. cond (is_gt (order x y)) (y ∷ l) (x ∷ (y ∷ ys))) (inserted_placed x ys h.1)

  pub sorted_placed : (xs : List ℕ) → Pairwise ◌<◌ xs → sorted_by (then_cmp order nat_cmp) xs ≡ sorted_by order xs
  unfolding sorted_by
  sorted_placed [] h = refl
  sorted_placed (x ∷ xs) h =
      ap (insert_by (then_cmp order nat_cmp) x) (sorted_placed xs h.1)
      ∙ inserted_placed x (sorted_by order xs) (all_sorted order (λ y. x < y) xs h.0)

  earlier_apart : (o : Ordering) (x y : ℕ) → x < y → is_eq (ordering_then o (nat_cmp x y)) ≡ false
  earlier_apart Less x y h = refl
  earlier_apart Equal x y h = ap is_eq (sym (nat_cmp_is x y Less h))
  earlier_apart Greater x y h = refl

  pub placed_apart : (xs : List ℕ) → Pairwise ◌<◌ xs → IsDistinct (λ x y. is_eq (then_cmp order nat_cmp x y)) xs
  unfolding IsDistinct
  placed_apart [] h = tt
  placed_apart (x ∷ xs) h = (
    all_weaker (λ y. x < y) (λ y. is_eq (then_cmp order nat_cmp x y) ≡ false)
        (λ y. earlier_apart (order x y) x y) xs h.0,
    placed_apart xs h.1,
  )

-- ---- those that do not stand after one of them

le_from : (o : Ordering) → is_gt o ≡ false → is_le o ≡ true
le_from Less h = refl
le_from Equal h = refl
le_from Greater h = absurd cc

gt_from : (o : Ordering) → is_le o ≡ false → is_gt o ≡ true
gt_from Less h = absurd cc
gt_from Equal h = absurd cc
gt_from Greater h = refl

not_gt_from : (o : Ordering) → is_le o ≡ true → is_gt o ≡ false
not_gt_from Less h = refl
not_gt_from Equal h = refl
not_gt_from Greater h = absurd cc

-- what a selection of std ensures, by a closure that compares by the order
pub split_by_closure : {A : Type 0} (order : A → A → Ordering) → IsTotalOrder order → {F : Type 0}
    {g : Mut F (Bor A × (Bor A × Unit {0})) Ordering} {f : F} (front : List A) (x : A) (back : List A)
    → IsSplitAroundByClosure g f front x back
    → ((a : Bor A × (Bor A × Unit {0})) (o : Ordering) (f' : F) → Called g f a o f'
    → (o ≡ order a.0.now a.1.0.now) × (f' ≡ f))
    → IsSplitAroundBy (λ a b. is_lt (order a b)) front x back
split_by_closure {A} order total {g = g} {f = f} front x back split answers =
    let lt = λ (a b : A). is_lt (order a b) in
    let compares : ComparesAs g lt f = always_returns_same g (λ a o. is_lt o ≡ lt a.0.now a.1.0.now) f
    (λ a o f' called. (ap is_lt (answers a o f' called).0, (answers a o f' called).1)) in
    split lt (weak_order order total) compares

reversed_is_eq : (o : Ordering) → is_eq (ordering_reverse o) ≡ is_eq o
reversed_is_eq Less = refl
reversed_is_eq Equal = refl
reversed_is_eq Greater = refl

-- what stands after one of the items is not equal to it
distinct_behind : {A : Type 0} (same : A → A → Bool) (front : List A) (x : A) (back : List A)
    → IsDistinct same (front ++ x ∷ back) → AllByRecursion (λ y. same x y ≡ false) back
unfolding IsDistinct
distinct_behind same [] x back h = h.0
distinct_behind same (y ∷ front) x back h = distinct_behind same front x back h.1

module _ {A : Type 0} (order : A → A → Ordering) (total : IsTotalOrder order) (last : A) where
  abbrev up_to : A → Bool
  up_to x = is_le (order x last)

  behind : (o p : Ordering) → p ≡ ordering_reverse o → is_lt p ≡ false → is_eq o ≡ false → is_le p ≡ false
  behind Less p turned no_less no_tie = ap is_le turned
  behind Equal p turned no_less no_tie = absurd cc
  behind Greater p turned no_less no_tie = let bad : true ≡ false = sym (ap is_lt turned) ∙ no_less in absurd cc

  none_up_to : (back : List A) → AllByRecursion (λ y. is_lt (order y last) ≡ false) back
      → AllByRecursion (λ y. is_eq (order last y) ≡ false) back → AllByRecursion (λ y. up_to y ≡ false) back
  none_up_to [] no_less no_tie = tt
  none_up_to (y ∷ ys) no_less no_tie = (
    behind (order last y) (order y last) (total.antisymm y last) no_less.0 no_tie.0,
    none_up_to ys no_less.1 no_tie.1,
  )

  -- a front and a back around the last one: up to it are the front and the last one itself, where no two are equal
  pub exact_split : (xs front back : List A) → IsPermutation xs (front ++ last ∷ back)
      → IsDistinct (λ x y. is_eq (order x y)) xs
      → ((k : ℕ) (d : A) → k < length front → is_lt (order last (get_or front k d)) ≡ false)
      → ((k : ℕ) (d : A) → k < length back → is_lt (order (get_or back k d) last) ≡ false)
      → length (filter up_to xs) ≡ length front + 1
  exact_split xs front back same distinct down up =
      let all = count_all up_to front (all_from_places (λ x. up_to x ≡ true) front
      (λ k d within. le_from (order (get_or front k d) last)
      (is_gt_turned order total (get_or front k d) last ∙ down k d within))) in
      let moved = IsDistinct-IsPermutation (λ x y. is_eq (order x y))
      (λ x y. ap is_eq (total.antisymm x y) ∙ reversed_is_eq (order y x)) xs (front ++ last ∷ back) same distinct in
      let none = count_none up_to back (none_up_to back (all_from_places (λ y. is_lt (order y last) ≡ false) back up)
      (distinct_behind (λ x y. is_eq (order x y)) front last back moved)) in
      let itself = le_from (order last last) (ap is_gt (tied_itself total last)) in
      let one = ap (λ t. cond t 1 0 + count_by up_to back) itself in
      let counts = length-filter up_to xs
      ∙ sym (sum_by-IsPermutation (λ x. cond (up_to x) 1 0) xs (front ++ last ∷ back) same)
      ∙ count_joined up_to front (last ∷ back) ∙ ap (λ m. count_by up_to front + m) (count_cons up_to last back) in
      omega (arith, all, none, counts, one)

  pub up_to_apart : (x y : A) → up_to x ≡ false → up_to y ≡ true → is_gt (order x y) ≡ true
  up_to_apart x y out inside =
      split_bool (is_gt (order x y)) (λ t. t ≡ true) (λ e. refl)
      (λ e. let up = upto total x y last e (not_gt_from (order y last) inside) in
      let bad : true ≡ false = sym (gt_from (order x last) out) ∙ up in absurd cc)

-- ---- the first places

pub range_increases : (count : ℕ) → IsStrictlyIncreasing (range_with_len 0 count)
range_increases count k within =
    pairs_from_pairwise ◌<◌ (range_with_len 0 count) (range_rises 0 count) k (k + 1) 0 (omega arith) within

pub taken_increases : (xs : List ℕ) (n : ℕ) → IsStrictlyIncreasing xs → IsStrictlyIncreasing (take n xs)
taken_increases xs n up k within =
    let long = length-take n xs in
    rw (get_or-take n xs k 0 (omega (arith, long, within)), get_or-take n xs (k + 1) 0 (omega (arith, long, within)))
    (up k (omega (arith, long, within)))

pairwise_from_pairs : {A : Type 0} (R : A → A → Type 0) (xs : List A) → AllPairs R xs → Pairwise R xs
pairwise_from_pairs R [] h = tt
pairwise_from_pairs R (x ∷ xs) h = (
  all_from_places (R x) xs (λ k d within. h 0 (suc k) d (omega arith) (omega arith)),
  pairwise_from_pairs R xs (λ i j d up within. h (suc i) (suc j) d (omega arith) (omega arith)),
)

pub rises_from : (xs : List ℕ) → IsStrictlyIncreasing xs → Pairwise ◌<◌ xs
rises_from xs up = pairwise_from_pairs ◌<◌ xs (AllPairs-from_increasing xs up)

taken_fewer : {A : Type 0} (keep : A → Bool) (xs : List A) (n : ℕ)
    → length (filter keep (take n xs)) ≤ length (filter keep xs)
taken_fewer keep xs zero = omega arith
taken_fewer keep [] (suc n) = omega arith
taken_fewer keep (x ∷ xs) (suc n) =
    let more = taken_fewer keep xs n in
    elim (keep x) as (λ t. length (cond t (x ∷ filter keep (take n xs)) (filter keep (take n xs)))
    ≤ length (cond t (x ∷ filter keep xs) (filter keep xs))) [
      | true ↦ omega (arith, more)
      | false ↦ more
    ]

-- Where this many of a sample stand up to the last one, those of all places up to it have the first of all.
pub has_first : (columns : List Column) (places : List ℕ) (sample most last : ℕ) (kept : List ℕ)
    → IsStrictlyIncreasing places
    → length (filter (is_up_to columns last) (take sample places)) ≡ most
    → kept ≡ filter (is_up_to columns last) places
    → HasFirst columns places sample most kept
has_first columns places sample most last kept up exact is =
    let order = columns_cmp columns in
    let placed = placed_cmp columns in
    let keep = is_up_to columns last in
    let left = filter keep places in
    let total = placed_cmp_total columns in
    let enough : most ≤ length left = omega (arith, exact, taken_fewer keep places sample) in
    let rises = rises_from places up in
    let first = ap (take most) (sym (sorted_placed order left (pairwise_filtered ◌<◌ keep places rises)))
    ∙ sym (take_sorted placed total keep (up_to_apart placed total last) most places (omega (arith, enough)))
    ∙ ap (take most) (sorted_placed order places rises) in
    record {
      first = ap (λ ps. take most (sorted_by order ps)) is ∙ first;
      rising = subst IsStrictlyIncreasing (sym is) (IsStrictlyIncreasing-filter keep places up);
      enough = rw is enough;
      exact = λ whole.
          ap length is
          ∙ sym (ap (λ ps. length (filter keep ps)) (take_whole places sample (omega (arith, whole))))
          ∙ exact;
    }

-- this many items in order, where there are no more
pub sorted_whole : (order : ℕ → ℕ → Ordering) (xs : List ℕ) (most : ℕ) → length xs ≡ most
    → take most (sorted_by order xs) ≡ sorted_by order xs
sorted_whole order xs most exact =
    let long = length_permutation xs (sorted_by order xs) (permutation_sorted order xs) in
    take_whole (sorted_by order xs) most (omega (arith, long, exact))

take_again : {A : Type 0} (n m : ℕ) → n ≤ m → (xs : List A) → take n (take m xs) ≡ take n xs
take_again zero m up xs = refl
take_again (suc n) zero up xs = absurd (omega arith)
take_again (suc n) (suc m) up [] = refl
take_again (suc n) (suc m) up (x ∷ xs) = ap (λ l. x ∷ l) (take_again n m (omega arith) xs)

-- An offset and a limit keep the same of the first items that are wanted as of all.
pub kept_of_first : {A : Type 0} (xs : List A) (offset : ℕ) (limit : Option ℕ) (count most : ℕ)
    → IsWanted offset limit count most → at_most limit (drop offset (take most xs)) ≡ at_most limit (drop offset xs)
kept_of_first xs offset limit count most wanted =
    subst (λ l. at_most l (drop offset (take most xs)) ≡ at_most l (drop offset xs)) (sym wanted.limited)
    (sym (drop-take offset wanted.size (take most xs))
    ∙ ap (drop offset) (take_again (offset + wanted.size) most wanted.enough xs) ∙ drop-take offset wanted.size xs)
