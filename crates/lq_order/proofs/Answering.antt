-- The groups of a tally in order, and the records that are made of them.
use Rattle.std.proofs.Common.{◌≡◌, ℕ, ◌≤◌, Bool, true, false, not, cond, List, [], ◌∷◌, map}
use Rattle.std.proofs.Common.{length, min, take, decimal}
use Rattle.std.proofs.Common.{Option, Some, codes}
use Rattle.std.proofs.Common.{refl, sym, ap, subst, ◌∙◌, arith}
use Rattle.std.proofs.lemmas.Bool.{le-leb, leb-false, leb-true, true_from_ne_false}
use Rattle.std.proofs.lemmas.List.{length-map}
use Rattle.std.proofs.lemmas.List.Sorted.{length_permutation}
use Rattle.std.proofs.lemmas.Map.Keys.{le_from_not_gt}
use Rattle.std.specs.Bool.{nat_le}
use Rattle.std.specs.Cmp.{IsTotalOrder, back_total, nat_cmp_total, on_total}
use Rattle.std.specs.List.{AllByRecursion, filter}
use Rattle.std.specs.Ordering.{is_gt, nat_cmp, on}
use Rattle.std.specs.declared.cmp.Ordering.{Ordering}
use Rattle.log_model.specs.Field.{set_field}
use Rattle.lq_ast.proofs.Sorted.{all_sorted, all_weaker, map_sorted, permutation_sorted}
use Rattle.lq_ast.proofs.Sorted.{sorted_alike}
use Rattle.lq_ast.proofs.TupleOrder.{tuple_cmp_total}
use Rattle.lq_ast.specs.Records.{Record}
use Rattle.lq_ast.specs.Sorting.{at_most, counted_record, hits, tuple_record, tuples}
use Rattle.lq_ast.specs.Sorting as sorting
use Rattle.lq_ast.specs.Tuples.{Tuple, is_wholly_empty, sorted_by, tuple_cmp, tuple_of}
use Rattle.lq_tuple.proofs.Lists.{map_alike, map_twice}
use Rattle.lq_tuple.proofs.Once.{once_kept_sorted}
use Rattle.lq_tuple.proofs.Tuples.{tuple_tells}
use Rattle.lq_order.proofs.Leading.{sorted_filtered, take_sorted}
use Rattle.lq_order.proofs.Named.{named_put}
use Rattle.lq_order.proofs.Picked.{map_at_most}
use Rattle.lq_tuple.specs.Once.{HasEachOnce}
use Rattle.lq_order.specs.Groups.{IsGroup, IsNthGreatest, counted_group}
use Rattle.lq_tuple.specs.Groups.{group_tuple, keyed_group}
use Rattle.lq_tuple.specs.declared.group.Group.{Group}
use Rattle.lq_tuple.specs.declared.keyed.KeyedGroup.{KeyedGroup}
use Rattle.lq_order.specs.Tally.{AreGroups, filled_tuples, has_hits}

-- ---- lists

pub filter_made : {A B : Type 0} (f : A → B) (test : B → Bool) (xs : List A)
    → map f (filter (λ x. test (f x)) xs) ≡ filter test (map f xs)
filter_made f test [] = refl
filter_made f test (x ∷ xs) =
    let more = filter_made f test xs in
    elim (test (f x)) as (λ t. map f (cond t (x ∷ filter (λ x. test (f x)) xs) (filter (λ x. test (f x)) xs))
    ≡ cond t (f x ∷ filter test (map f xs)) (filter test (map f xs))) [
      | true ↦ ap (λ l. f x ∷ l) more
      | false ↦ more
    ]

all_pass : {A : Type 0} (test : A → Bool) (xs : List A) → ((x : A) → test x ≡ true) → filter test xs ≡ xs
all_pass test [] pass = refl
all_pass test (x ∷ xs) pass =
    ap (λ t. cond t (x ∷ filter test xs) (filter test xs)) (pass x) ∙ ap (λ l. x ∷ l) (all_pass test xs pass)

-- ---- groups in order

-- from the most records down
abbrev most_first : Group ℕ → Group ℕ → Ordering
most_first a b = nat_cmp b.kept a.kept

abbrev pub keyed_most_first : KeyedGroup ℕ → KeyedGroup ℕ → Ordering
keyed_most_first a b = most_first a.group.now b.group.now

pub most_first_total : IsTotalOrder keyed_most_first
most_first_total = back_total (on_total (λ (k : KeyedGroup ℕ). k.group.now.kept) nat_cmp_total)

-- ---- the records of groups

-- the record of a tuple, as the pipes have it
abbrev record_of : List (List ℕ) → List Record → Bool → Tuple → Record
record_of names records counted = cond counted (counted_record names records) (tuple_record names)

made_is : (names : List (List ℕ)) (records : List Record) (counted : Bool) (group : Group ℕ)
    → IsGroup names records group
    → counted_group names counted group ≡ record_of names records counted (group_tuple group)
made_is names records true group h =
    ap (λ fields. set_field fields (codes "hits") (decimal group.kept)) (named_put names (group_tuple group) h.0)
    ∙ ap (λ n. set_field (tuple_record names (group_tuple group)) (codes "hits") (decimal n)) h.1
made_is names records false group h = named_put names (group_tuple group) h.0

-- the first of some groups
made_at_most : (names : List (List ℕ)) (records : List Record) (counted : Bool) (limit : Option ℕ)
    (kept : List (KeyedGroup ℕ)) (groups : List (Group ℕ)) → map keyed_group kept ≡ at_most limit groups
    → AllByRecursion (IsGroup names records) groups
    → map (counted_group names counted) (map keyed_group kept)
    ≡ at_most limit (map (record_of names records counted) (map group_tuple groups))
made_at_most names records counted limit kept groups is each =
    ap (map (counted_group names counted)) is ∙ map_at_most (counted_group names counted) limit groups
    ∙ ap (at_most limit)
    (map_alike (counted_group names counted) (λ group. record_of names records counted (group_tuple group)) groups
    (all_weaker (IsGroup names records) _ (made_is names records counted) groups each)
    ∙ sym (map_twice group_tuple (record_of names records counted) groups))

-- ---- the groups of a tally

module _ (names : List (List ℕ)) (records : List Record) where
  -- by the numbers of records that have them, from the greatest down
  abbrev most_hits : Tuple → Tuple → Ordering
  most_hits a b = nat_cmp (hits names records b) (hits names records a)

  most_hits_total : IsTotalOrder most_hits
  most_hits_total = back_total (on_total (hits names records) nat_cmp_total)

  -- a tuple of fewer records stands after one that has this many
  fewer_behind : (least : ℕ) (a b : Tuple) → has_hits names records least a ≡ false
      → has_hits names records least b ≡ true → is_gt (most_hits a b) ≡ true
  fewer_behind least a b few many = true_from_ne_false (is_gt (most_hits a b)) (λ e.
      let below = leb-false least (hits names records a) few in
      let above = leb-true least (hits names records b) many in
      let not_above = le_from_not_gt (hits names records b) (hits names records a) e in
      omega arith)

  module _ (some : List Tuple) (once : HasEachOnce tuple_cmp some (filled_tuples names records)) where
    tuples_are : sorted_by tuple_cmp some ≡ tuples names records
    tuples_are = once_kept_sorted tuple_cmp tuple_cmp_total tuple_tells (λ tuple. not (is_wholly_empty tuple)) some
        (map (tuple_of names) records) once

    -- those that this many records have are enough
    enough_kept : (most least : ℕ) → IsNthGreatest most least (map (hits names records) some)
        → min most (length (tuples names records)) ≤ length (filter (has_hits names records least) (tuples names records))
    enough_kept most least enough =
        let keep = has_hits names records least in
        let kept : sorted_by tuple_cmp (filter keep some) ≡ filter keep (tuples names records) =
        sorted_filtered tuple_cmp tuple_cmp_total keep some ∙ ap (filter keep) tuples_are in
        let long = length_permutation some (sorted_by tuple_cmp some) (permutation_sorted tuple_cmp some)
        ∙ sym (length-map some (hits names records)) in
        let short = length_permutation (filter keep some) (sorted_by tuple_cmp (filter keep some))
        (permutation_sorted tuple_cmp (filter keep some))
        ∙ sym (length-map (filter keep some) (hits names records))
        ∙ ap length (filter_made (hits names records) (nat_le least) some) in
        omega (arith, enough.enough, long, short, ap length tuples_are, ap length kept)

    first_kept : (most least : ℕ)
        → min most (length (tuples names records)) ≤ length (filter (has_hits names records least) (tuples names records))
        → take most (sorted_by most_hits (sorted_by tuple_cmp (filter (has_hits names records least) some)))
        ≡ take most (sorted_by most_hits (tuples names records))
    first_kept most least enough =
        let keep = has_hits names records least in
        ap (λ ts. take most (sorted_by most_hits ts))
        (sorted_filtered tuple_cmp tuple_cmp_total keep some ∙ ap (filter keep) tuples_are)
        ∙ sym (take_sorted most_hits most_hits_total keep (fewer_behind least) most (tuples names records) enough)

  -- all groups
  pub uniq_made : (counted : Bool) (limit : Option ℕ) (groups : List (Group ℕ)) (keyed kept : List (KeyedGroup ℕ))
      → AreGroups names records 0 groups → kept ≡ at_most limit keyed
      → map keyed_group keyed ≡ sorted_by (on group_tuple tuple_cmp) groups
      → map (counted_group names counted) (map keyed_group kept)
      ≡ sorting.uniq (record { names = names; hits = counted; limit = limit }) records
  uniq_made counted limit groups keyed kept h is of =
      let by_tuple = on group_tuple tuple_cmp in
      made_at_most names records counted limit kept (sorted_by by_tuple groups)
      (ap (map keyed_group) is ∙ map_at_most keyed_group limit keyed ∙ ap (at_most limit) of)
      (all_sorted by_tuple (IsGroup names records) groups h.each)
      ∙ ap (λ ts. at_most limit (map (record_of names records counted) ts))
      (map_sorted group_tuple tuple_cmp groups
      ∙ ap (sorted_by tuple_cmp) (h.chosen ∙ all_pass (has_hits names records 0) h.tuples
      (λ t. le-leb 0 (hits names records t) (omega arith))) ∙ tuples_are h.tuples h.once)

  -- the groups that can be among the first
  pub top_made : (most least : ℕ) (some : List Tuple) (numbers : List ℕ) (groups : List (Group ℕ))
      (keyed sorted kept : List (KeyedGroup ℕ)) → AreGroups names records least groups
      → HasEachOnce tuple_cmp some (filled_tuples names records) → numbers ≡ map (hits names records) some
      → IsNthGreatest most least numbers → kept ≡ take most sorted → sorted ≡ sorted_by keyed_most_first keyed
      → map keyed_group keyed ≡ sorted_by (on group_tuple tuple_cmp) groups
      → map (counted_group names true) (map keyed_group kept)
      ≡ sorting.top (record { most = most; names = names }) records
  top_made most least some numbers groups keyed sorted kept h once are nth is by of =
      let by_tuple = on group_tuple tuple_cmp in
      let ordered = sorted_by by_tuple groups in
      let each = all_sorted by_tuple (IsGroup names records) groups h.each in
      let first = ap (map keyed_group) is ∙ map_at_most keyed_group (Some most) sorted
      ∙ ap (λ l. take most (map keyed_group l)) by
      ∙ ap (take most) (map_sorted keyed_group most_first keyed ∙ ap (sorted_by most_first) of) in
      let same : sorted_by most_first ordered ≡ sorted_by (on group_tuple most_hits) ordered =
      sorted_alike most_first (on group_tuple most_hits) (IsGroup names records)
      (λ a b of_a of_b. ap (λ n. nat_cmp n a.kept) of_b.1 ∙ ap (nat_cmp (hits names records (group_tuple b))) of_a.1)
      ordered each in
      let are_tuples : map group_tuple (sorted_by most_first ordered)
      ≡ sorted_by most_hits (sorted_by tuple_cmp (filter (has_hits names records least) h.tuples)) =
      ap (map group_tuple) same ∙ map_sorted group_tuple most_hits ordered
      ∙ ap (sorted_by most_hits) (map_sorted group_tuple tuple_cmp groups ∙ ap (sorted_by tuple_cmp) h.chosen) in
      made_at_most names records true (Some most) kept (sorted_by most_first ordered) first
      (all_sorted most_first (IsGroup names records) ordered each)
      ∙ ap (λ ts. take most (map (counted_record names records) ts)) are_tuples
      ∙ sym (map_at_most (counted_record names records) (Some most) _)
      ∙ ap (map (counted_record names records)) (first_kept h.tuples h.once most least
      (enough_kept some once most least (subst (IsNthGreatest most least) are nth)))
      ∙ map_at_most (counted_record names records) (Some most) _
