-- The last part of a day.
use Rattle.std.proofs.Common.{◌≡◌, ◌⊎◌, ℕ, zero, suc, ◌+◌, ◌-◌, ◌<◌, ◌≤◌, Bool, true, false, cond, leb, List, [], ◌∷◌}
use Rattle.std.proofs.Common.{◌++◌}
use Rattle.std.proofs.Common.{inl, inr, length, get_or, take, drop, map, refl, sym, ap, subst, ◌∙◌, arith, leb-true}
use Rattle.std.proofs.Common.{leb-false}
use Rattle.std.proofs.Common.{length-drop}
use Rattle.std.proofs.Math.Seq.{split_at}
use Rattle.std.proofs.lemmas.Bool.{ne_eqb}
use Rattle.std.proofs.lemmas.List.{get_or-drop, map-append}
use Rattle.std.proofs.lemmas.List.Elements.{All-from_recursion, All-head, All-tail}
use Rattle.std.specs.List.{All, AllByRecursion, filter}
use Rattle.std.specs.List.Sorted.{IsNonDecreasingBy}
use Rattle.part_store.specs.State.{AreInOrder, ComesBefore, Listed, is_day, listed_of}
use Rattle.part_store.specs.declared.store.Stored.{Stored}
use Rattle.merge_plan.specs.Grouping.{IsYoungest}

not-before : (a b : Listed) → ComesBefore a b → a.day ≤ b.day
not-before a b h = elim h.0 [ inl lt ↦ omega arith | inr same ↦ omega (arith, same.0) ]

later-than : (x : Listed) (xs : List Stored) → AllByRecursion (ComesBefore x) (map listed_of xs)
    → AllByRecursion (λ (y : Stored). x.day ≤ y.day) xs
later-than x [] h = tt
later-than x (y ∷ ys) h = (not-before x (listed_of y) h.0, later-than x ys h.1)

falls-not : (x : Stored) (xs : List Stored) → AllByRecursion (ComesBefore (listed_of x)) (map listed_of xs)
    → IsNonDecreasingBy (λ (y : Stored). y.day) xs
    → (i j : ℕ) (d : Stored) → i ≤ j → j < length (x ∷ xs)
    → (get_or (x ∷ xs) i d).day ≤ (get_or (x ∷ xs) j d).day
falls-not x xs first rest zero zero d le lt = omega arith
falls-not x xs first rest zero (suc j) d le lt =
    All-from_recursion (λ (y : Stored). x.day ≤ y.day) xs (later-than (listed_of x) xs first) j d (omega arith)
falls-not x xs first rest (suc i) zero d le lt = absurd (omega arith)
falls-not x xs first rest (suc i) (suc j) d le lt = rest i j d (omega arith) (omega arith)

-- the days of parts in order do not fall
pub non-falling : (xs : List Stored) → AreInOrder (map listed_of xs) → IsNonDecreasingBy (λ (x : Stored). x.day) xs
non-falling [] order = λ i j d le lt. absurd (omega arith)
non-falling (x ∷ xs) order = falls-not x xs order.0 (non-falling xs order.1)

pub no-day : (day : ℕ) (xs : List Stored) → All (λ (x : Stored). x.day ≡ day → ⊥) xs
    → filter (is_day day) (map listed_of xs) ≡ []
no-day day [] h = refl
no-day day (x ∷ xs) h =
    ap (λ (t : Bool). cond t (listed_of x ∷ filter (is_day day) (map listed_of xs)) (filter (is_day day)
    (map listed_of xs)))
    (ne_eqb x.day day (All-head (λ (y : Stored). y.day ≡ day → ⊥) x xs h))
    ∙ no-day day xs (All-tail (λ (y : Stored). y.day ≡ day → ⊥) x xs h)

pub youngest-some : (xs : List Stored) (end day : ℕ) (x : Stored) → 0 < end → end ≤ length xs
    → x ≡ get_or xs (end - 1) x → x.day ≡ day
    → ((k : ℕ) (d : Stored) → end ≤ k → k < length xs → day < (get_or xs k d).day)
    → IsYoungest day (listed_of x) (map listed_of xs)
youngest-some xs end day x some le is same later = record {
  before = map listed_of (take (end - 1) xs);
  after = map listed_of (drop end xs);
  parts = ap (map listed_of) cut ∙ map-append listed_of (take (end - 1) xs) (x ∷ drop end xs);
  day_is = same;
  last = no-day day (drop end xs) (λ k d lt here.
      let up = later (end + k) d (omega arith) (omega (arith, length-drop end xs)) in
      let at : (get_or (drop end xs) k d).day ≡ (get_or xs (end + k) d).day = ap (λ (y : Stored). y.day)
      (get_or-drop end xs k d) in
      omega arith);
}
  where
    next : suc (end - 1) ≡ end
    next = omega arith

    cut : xs ≡ take (end - 1) xs ++ x ∷ drop end xs
    cut =
        split_at xs (end - 1) x (omega arith)
        ∙ ap (λ (y : Stored). take (end - 1) xs ++ y ∷ drop (suc (end - 1)) xs) (sym is)
        ∙ ap (λ n. take (end - 1) xs ++ x ∷ drop n xs) next

pub youngest-none : (xs : List Stored) (end day : ℕ)
    → ((k : ℕ) (d : Stored) → k < end → k < length xs → (get_or xs k d).day < day)
    → ((k : ℕ) (d : Stored) → end ≤ k → k < length xs → day < (get_or xs k d).day)
    → filter (is_day day) (map listed_of xs) ≡ []
youngest-none xs end day before after = no-day day xs (λ k d lt here. by k d lt here (leb end k) refl)
  where
    by : (k : ℕ) (d : Stored) → k < length xs → (get_or xs k d).day ≡ day → (t : Bool) → leb end k ≡ t → ⊥
    by k d lt here true e = let up = after k d (leb-true end k e) lt in omega arith
    by k d lt here false e = let up = before k d (leb-false end k e) lt in omega arith
