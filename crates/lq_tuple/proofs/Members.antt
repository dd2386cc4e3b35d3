-- Which texts are among others, and lists in which no text stands twice.
use Rattle.std.proofs.Common.{◌≡◌, ℕ, ◌+◌, ◌≤◌, Bool, true, false, not, ◌||◌, cond, List, [], ◌∷◌, ◌++◌, length, map}
use Rattle.std.proofs.Common.{Some, bytes_eq, is_some, refl, sym, ap, ◌∙◌, arith}
use Rattle.std.proofs.lemmas.Bool.{false_from_ne_true}
use Rattle.std.proofs.lemmas.List.Folds.{list_any-append}
use Rattle.std.proofs.lemmas.Map.Made.{length-le_from_is_member}
use Rattle.std.proofs.lemmas.Map.Steps.{list_any_congr}
use Rattle.std.proofs.lemmas.Cmp.{nat_list_eq_equiv}
use Rattle.std.specs.List.{AllByRecursion, IsDistinct, filter, list_any, position_from}
use Rattle.vl_row.proofs.Sorted.{all_append}
use Rattle.lq_ast.proofs.Sorted.{all_weaker, split_bool}
use Rattle.lq_tuple.proofs.Once.{all_filtered}
use Rattle.lq_tuple.proofs.Positions.{bytes_itself}
use Rattle.lq_tuple.specs.Places.{place_in}

-- ---- whether one item passes

pub or_none : (t : Bool) → (t || false) ≡ t
or_none true = refl
or_none false = refl

module _ {A : Type 0} where
  pub any_from : (test : A → Bool) (i : ℕ) (xs : List A) → is_some (position_from test i xs) ≡ list_any test xs
  any_from test i [] = refl
  any_from test i (x ∷ xs) = at (test x) (any_from test (i + 1) xs)
    where
      at : (t : Bool) → is_some (position_from test (i + 1) xs) ≡ list_any test xs
          → is_some (cond t (Some i) (position_from test (i + 1) xs)) ≡ (t || list_any test xs)
      at true more = refl
      at false more = more

  pub any_never : (xs : List A) → list_any (λ (x : A). false) xs ≡ false
  any_never [] = refl
  any_never (x ∷ xs) = any_never xs

  pub any_made : {B : Type 0} (test : B → Bool) (f : A → B) (xs : List A)
      → list_any test (map f xs) ≡ list_any (λ x. test (f x)) xs
  any_made test f [] = refl
  any_made test f (x ∷ xs) = ap (λ t. test (f x) || t) (any_made test f xs)

  -- the item that passes
  pub any_is : (test : A → Bool) (xs : List A) → list_any test xs ≡ true → (x : A) × (test x ≡ true)
  any_is test [] e = absurd cc
  any_is test (x ∷ xs) e =
      split_bool (test x) (λ t. (t || list_any test xs) ≡ true → (y : A) × (test y ≡ true)) (λ passes _. (x, passes))
      (λ _ more. any_is test xs more) e

pub placed_any : (texts : List (List ℕ)) (q : List ℕ) → is_some (place_in texts q) ≡ list_any (bytes_eq q) texts
placed_any texts q = any_from (bytes_eq q) 0 texts

pub behind : (t : Bool) {s : Bool} → s ≡ true → (t || s) ≡ true
behind true e = refl
behind false e = e

-- ---- texts that are all among others

abbrev pub AreAmong : List (List ℕ) → List (List ℕ) → Type 0
AreAmong xs ys = AllByRecursion (λ x. list_any (bytes_eq x) ys ≡ true) xs

pub among_at : (xs ys : List (List ℕ)) (q : List ℕ) → AreAmong xs ys → list_any (bytes_eq q) xs ≡ true
    → list_any (bytes_eq q) ys ≡ true
among_at [] ys q h e = absurd cc
among_at (x ∷ xs) ys q h e =
    split_bool (bytes_eq q x) (λ t. (t || list_any (bytes_eq q) xs) ≡ true → list_any (bytes_eq q) ys ≡ true)
    (λ same _. list_any_congr nat_list_eq_equiv q x ys same ∙ h.0) (λ _ more. among_at xs ys q h.1 more) e

pub among_from : (xs ys : List (List ℕ))
    → ((q : List ℕ) → list_any (bytes_eq q) xs ≡ true → list_any (bytes_eq q) ys ≡ true) → AreAmong xs ys
among_from [] ys h = tt
among_from (x ∷ xs) ys h =
    let first = ap (λ t. t || list_any (bytes_eq x) xs) (bytes_itself x) in
    (h x first, among_from xs ys (λ q e. h q (behind (bytes_eq q x) e)))

pub among_through : (xs ys zs : List (List ℕ)) → AreAmong xs ys → AreAmong ys zs → AreAmong xs zs
among_through xs ys zs h k =
    all_weaker (λ x. list_any (bytes_eq x) ys ≡ true) (λ x. list_any (bytes_eq x) zs ≡ true)
    (λ x e. among_at ys zs x k e) xs h

-- ---- no text twice

pub among_few : (xs ys : List (List ℕ)) → IsDistinct bytes_eq xs → AreAmong xs ys → length xs ≤ length ys
among_few xs ys apart h = length-le_from_is_member nat_list_eq_equiv xs ys apart (λ q e. among_at xs ys q h e)

-- as many different ones are all of them
pub among_all : (xs ys : List (List ℕ)) → IsDistinct bytes_eq xs → AreAmong xs ys → length ys ≤ length xs
    → AreAmong ys xs
unfolding IsDistinct
among_all xs ys apart h many =
    among_from ys xs (λ q e. split_bool (list_any (bytes_eq q) xs) (λ t. t ≡ true) (λ _. refl) (λ none.
    let more = among_few (q ∷ xs) ys (free q xs none, apart) (e, h) in
    absurd (omega arith)))
  where
    free : (q : List ℕ) (zs : List (List ℕ)) → list_any (bytes_eq q) zs ≡ false
        → AllByRecursion (λ z. bytes_eq q z ≡ false) zs
    free q [] e = tt
    free q (z ∷ zs) e =
        split_bool (bytes_eq q z)
        (λ t. (t || list_any (bytes_eq q) zs) ≡ false → (t ≡ false) × AllByRecursion (λ y. bytes_eq q y ≡ false) zs)
        (λ _ bad. absurd cc) (λ _ more. (refl, free q zs more)) e

pub apart_filtered : (keep : List ℕ → Bool) (xs : List (List ℕ)) → IsDistinct bytes_eq xs
    → IsDistinct bytes_eq (filter keep xs)
unfolding IsDistinct
apart_filtered keep [] h = tt
apart_filtered keep (x ∷ xs) h =
    elim (keep x) as (λ t. IsDistinct bytes_eq (cond t (x ∷ filter keep xs) (filter keep xs))) [
      | true ↦ (all_filtered (λ y. bytes_eq x y ≡ false) keep xs h.0, apart_filtered keep xs h.1)
      | false ↦ apart_filtered keep xs h.1
    ]

pub apart_joined : (xs ys : List (List ℕ)) → IsDistinct bytes_eq xs → IsDistinct bytes_eq ys
    → AllByRecursion (λ y. list_any (bytes_eq y) xs ≡ false) ys → IsDistinct bytes_eq (xs ++ ys)
unfolding IsDistinct
apart_joined [] ys h k free = k
apart_joined (x ∷ xs) ys h k free = (
  all_append (λ y. bytes_eq x y ≡ false) xs ys h.0
      (all_weaker (λ y. list_any (bytes_eq y) (x ∷ xs) ≡ false) (λ y. bytes_eq x y ≡ false)
      (λ y e. nat_list_eq_equiv.symm x y ∙ (parts (bytes_eq y x) (list_any (bytes_eq y) xs) e).0) ys free),
  apart_joined xs ys h.1 k
      (all_weaker (λ y. list_any (bytes_eq y) (x ∷ xs) ≡ false) (λ y. list_any (bytes_eq y) xs ≡ false)
      (λ y e. (parts (bytes_eq y x) (list_any (bytes_eq y) xs) e).1) ys free),
)
  where
    parts : (s t : Bool) → (s || t) ≡ false → (s ≡ false) × (t ≡ false)
    parts true t e = absurd cc
    parts false t e = (refl, e)

-- what is made of different items, where it tells them apart
pub apart_made : {K : Type 0} (eq : K → K → Bool) (f : K → List ℕ)
    → ((a b : K) → eq a b ≡ false → bytes_eq (f a) (f b) ≡ false)
    → (ks : List K) → IsDistinct eq ks → IsDistinct bytes_eq (map f ks)
unfolding IsDistinct
apart_made eq f tells [] h = tt
apart_made {K = K} eq f tells (k ∷ ks) h = (all_made ks h.0, apart_made eq f tells ks h.1)
  where
    all_made : (js : List K) → AllByRecursion (λ j. eq k j ≡ false) js
        → AllByRecursion (λ y. bytes_eq (f k) y ≡ false) (map f js)
    all_made [] e = tt
    all_made (j ∷ js) e = (tells k j e.0, all_made js e.1)

-- ---- texts, and the others that are not among them

pub rest : List (List ℕ) → List (List ℕ) → List (List ℕ)
rest texts others = filter (λ text. not (is_some (place_in texts text))) others

rest_free : (texts others : List (List ℕ))
    → AllByRecursion (λ y. list_any (bytes_eq y) texts ≡ false) (rest texts others)
unfolding rest
rest_free texts [] = tt
rest_free texts (y ∷ ys) =
    split_bool (is_some (place_in texts y))
    (λ t. AllByRecursion (λ z. list_any (bytes_eq z) texts ≡ false)
    (cond (not t) (y ∷ filter (λ text. not (is_some (place_in texts text))) ys)
    (filter (λ text. not (is_some (place_in texts text))) ys)))
    (λ _. rest_free texts ys) (λ e. (sym (placed_any texts y) ∙ e, rest_free texts ys))

pub united_apart : (texts others : List (List ℕ)) → IsDistinct bytes_eq texts → IsDistinct bytes_eq others
    → IsDistinct bytes_eq (texts ++ filter (λ text. not (is_some (place_in texts text))) others)
unfolding rest
united_apart texts others h k =
    apart_joined texts (rest texts others) h
    (apart_filtered (λ text. not (is_some (place_in texts text))) others k) (rest_free texts others)

pub united_any : (texts others : List (List ℕ)) (q : List ℕ)
    → list_any (bytes_eq q) (texts ++ filter (λ text. not (is_some (place_in texts text))) others)
    ≡ (list_any (bytes_eq q) texts || list_any (bytes_eq q) others)
unfolding rest
united_any texts others q =
    list_any-append (bytes_eq q) texts (rest texts others)
    ∙ split_bool (list_any (bytes_eq q) texts)
    (λ t. (t || list_any (bytes_eq q) (rest texts others)) ≡ (t || list_any (bytes_eq q) others))
    (λ _. refl) (λ e. left e others)
  where
    left : list_any (bytes_eq q) texts ≡ false → (ys : List (List ℕ))
        → list_any (bytes_eq q) (filter (λ text. not (is_some (place_in texts text))) ys) ≡ list_any (bytes_eq q) ys
    left e [] = refl
    left e (y ∷ ys) =
        split_bool (is_some (place_in texts y))
        (λ t. list_any (bytes_eq q) (cond (not t) (y ∷ filter (λ text. not (is_some (place_in texts text))) ys)
        (filter (λ text. not (is_some (place_in texts text))) ys)) ≡ (bytes_eq q y || list_any (bytes_eq q) ys))
        (λ had.
        let other : bytes_eq q y ≡ false = false_from_ne_true (bytes_eq q y) (λ same.
        let there : list_any (bytes_eq q) texts ≡ true =
        list_any_congr nat_list_eq_equiv q y texts same ∙ sym (placed_any texts y) ∙ had in
        absurd cc) in
        left e ys ∙ ap (λ t. t || list_any (bytes_eq q) ys) (sym other))
        (λ _. ap (λ t. bytes_eq q y || t) (left e ys))
