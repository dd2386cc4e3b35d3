-- What a binary search finds among names in byte order.
use Rattle.std.proofs.Common.{◌≡◌, ℕ, zero, suc, ◌+◌, ◌<◌, ◌≤◌, Bool, true, false, ◌||◌, List, [], ◌∷◌, length, get_or}
use Rattle.std.proofs.Common.{Result, Ok, Err, is_ok, refl, sym, ap, ◌∙◌, bytes_eq, arith, inl, inr, ◌⊎◌}
use Rattle.std.specs.List.{list_any}
use Rattle.std.specs.Fn.{Called, ComparesAs}
use Rattle.std.specs.List.Sorted.{IsBinarySearchResult, IsPermutation, IsSearchInRange, IsSortedBy, IsSortedByClosure}
use Rattle.std.specs.Ordering.{is_lt}
use Rattle.std.specs.declared.cmp.Ordering.{Ordering}
use Rattle.std.specs.declared.cmp.Ordering.TheVariants.{Less, Equal, Greater}
use Rattle.std.proofs.lemmas.Bool.{cases_lt}
use Rattle.std.proofs.lemmas.Cmp.{nat_list_cmp_total}
use Rattle.std.proofs.lemmas.List.Folds.{list_any_none}
use Rattle.std.proofs.lemmas.Fn.{always_returns_same}
use Rattle.std.proofs.lemmas.List.Sorted.{list_any-IsPermutation, ranks_by, searchable_from_sorted}
use Rattle.std.proofs.lemmas.Slice.Eq.{bytes_eq-Decides}
use Rattle.log_model.specs.Field.{bytes_cmp}
use Rattle.vl_row.specs.Names.{is_among, is_below}
use Rattle.vl_row.proofs.NameOrder.{less_from_greater, other_above, other_below, same_name}
use denote.Param.Members.{Mut}
use denote.Ref.{Bor}

any_at : (names : List (List ℕ)) (name : List ℕ) (i : ℕ) (d : List ℕ) → i < length names
    → bytes_eq name (get_or names i d) ≡ true → list_any (bytes_eq name) names ≡ true
any_at [] name i d l h = absurd (omega arith)
any_at (n ∷ ns) name zero d l h = ap (λ b. b || list_any (bytes_eq name) ns) h
any_at (n ∷ ns) name (suc i) d l h = or_true (bytes_eq name n) (any_at ns name i d (omega arith) h)
  where
    or_true : (b : Bool) {c : Bool} → c ≡ true → (b || c) ≡ true
    or_true true h = refl
    or_true false h = h

pub found_among : (names : List (List ℕ)) (name : List ℕ) (r : Result ℕ ℕ) → IsSortedBy is_below names
    → IsSearchInRange r (length names) → IsBinarySearchResult (λ listed. bytes_cmp listed name) names r
    → is_ok r ≡ is_among names name
found_among names name (Ok i) sorted within h =
    let same : get_or names i [] ≡ name = same_name (get_or names i []) name (h []) in
    sym (any_at names name i [] within ((bytes_eq-Decides name (get_or names i [])).1 (sym same)))
found_among names name (Err i) sorted within h =
    let parts = h (searchable_from_sorted nat_list_cmp_total (λ (n : List ℕ). n) names name sorted) in
    sym (list_any_none (bytes_eq name) names (λ k d l.
    split (cases_lt k i)
    (λ low. other_below name (get_or names k d) (parts.0 k d (omega arith) low))
    (λ high. other_above name (get_or names k d) (less_from_greater (get_or names k d) name (parts.1 k d high l)))))
  where
    split : {A B G : Type 0} → A ⊎ B → (A → G) → (B → G) → G
    split (inl a) f g = f a
    split (inr b) f g = g b

-- what a sort ensures
pub sorted_by_closure : {F : Type 0} {g : Mut F (Bor (List ℕ) × (Bor (List ℕ) × Unit {0})) Ordering} {f : F}
    (names : List (List ℕ)) → IsSortedByClosure g f names
    → ((a : Bor (List ℕ) × (Bor (List ℕ) × Unit {0})) (o : Ordering) (f' : F) → Called g f a o f'
    → (o ≡ bytes_cmp a.0.now a.1.0.now) × (f' ≡ f))
    → IsSortedBy is_below names
sorted_by_closure {g = g} {f = f} names sorted answers =
    let compares : ComparesAs g is_below f = always_returns_same g (λ a o. is_lt o ≡ is_below a.0.now a.1.0.now) f
    (λ a o f' called. (ap is_lt (answers a o f' called).0, (answers a o f' called).1)) in
    sorted is_below (ranks_by nat_list_cmp_total (λ (name : List ℕ). name)) compares

pub among_moved : (given copies sorted : List (List ℕ)) (name : List ℕ) → copies ≡ given → IsPermutation copies sorted
    → is_among sorted name ≡ is_among given name
among_moved given copies sorted name e moved =
    sym (list_any-IsPermutation (bytes_eq name) copies sorted moved)
    ∙ ap (λ (names : List (List ℕ)). is_among names name) e
