-- Rows that stand one after another in a list, and lists of such.
use Rattle.std.proofs.Common.{◌≡◌, ℕ, zero, suc, ◌+◌, ◌-◌, ◌<◌, ◌≤◌, Bool, true, List, [], ◌∷◌, ◌++◌, length}
use Rattle.std.proofs.Common.{map, take, drop, get_or}
use Rattle.std.proofs.Common.{Some, refl, sym, ap, ◌∙◌, arith, slice_get}
use Rattle.std.specs.Prelude.{◌&&◌}
use Rattle.std.specs.List.{AllByRecursion, list_all, slice_range}
use Rattle.std.proofs.lemmas.List.{append-nil, length-drop, length-take, map-append, take_more}
use Rattle.std.proofs.lemmas.List.Folds.{list_all-append}
use Rattle.std.proofs.lemmas.Grind.{flat_map-append}
use Rattle.byte_format.proofs.Cases.{both_true, some_is}
use Rattle.log_model.specs.History.{Numbered}
use Rattle.block_gather.specs.Picked.{Picked, rows_of, rows_picked}

-- ---- one row more of a pick

take-map-more : {X Y : Type 0} (f : X → Y) (xs : List X) (k : ℕ) (y : Y) → slice_get (map f xs) k ≡ Some y
    → map f (take (suc k) xs) ≡ map f (take k xs) ++ y ∷ []
take-map-more f [] k y e = absurd cc
take-map-more f (x ∷ xs) zero y e = ap (λ z. z ∷ []) (some_is (f x) y e)
take-map-more f (x ∷ xs) (suc k) y e = ap (λ l. f x ∷ l) (take-map-more f xs k y e)

get-drop : {X Y : Type 0} (f : X → Y) (xs : List X) (a k : ℕ)
    → slice_get (map f (drop a xs)) k ≡ slice_get (map f xs) (a + k)
get-drop f xs zero k =
    let same : k ≡ zero + k = omega arith in
    ap (slice_get (map f xs)) same
get-drop f [] (suc a) k = refl
get-drop f (x ∷ xs) (suc a) k =
    let next : suc (a + k) ≡ suc a + k = omega arith in
    get-drop f xs a k ∙ ap (slice_get (f x ∷ map f xs)) next

pub slice-more : {X Y : Type 0} (f : X → Y) (xs : List X) (a i : ℕ) (y : Y) → a ≤ i → slice_get (map f xs) i ≡ Some y
    → map f (slice_range xs a (i + 1)) ≡ map f (slice_range xs a i) ++ y ∷ []
slice-more f xs a i y le e =
    let at : a + (i - a) ≡ i = omega (arith, le) in
    let next : (i + 1) - a ≡ suc (i - a) = omega (arith, le) in
    ap (λ (n : ℕ). map f (take n (drop a xs))) next
    ∙ take-map-more f (drop a xs) (i - a) y (get-drop f xs a (i - a) ∙ ap (slice_get (map f xs)) at ∙ e)

-- none at its start
pub slice-none : {X Y : Type 0} (f : X → Y) (xs : List X) (a : ℕ) → map f (slice_range xs a a) ≡ []
slice-none f xs a =
    let none : a - a ≡ 0 = omega arith in
    ap (λ (n : ℕ). map f (take n (drop a xs))) none

pub slice-length : {X : Type 0} (xs : List X) (a b : ℕ) → a < b → b ≤ length xs → 0 < length (slice_range xs a b)
slice-length xs a b some within =
    omega (arith, some, within, length-take (b - a) (drop a xs), length-drop a xs)

-- ---- what holds of each row

all-drop : {X : Type 0} (P : X → Type 0) (n : ℕ) (xs : List X) → AllByRecursion P xs → AllByRecursion P (drop n xs)
all-drop P zero xs h = h
all-drop P (suc n) [] h = tt
all-drop P (suc n) (x ∷ xs) h = all-drop P n xs h.1

all-take : {X : Type 0} (P : X → Type 0) (n : ℕ) (xs : List X) → AllByRecursion P xs → AllByRecursion P (take n xs)
all-take P zero xs h = tt
all-take P (suc n) [] h = tt
all-take P (suc n) (x ∷ xs) h = (h.0, all-take P n xs h.1)

pub all-slice : {X : Type 0} (P : X → Type 0) (xs : List X) (a b : ℕ) → AllByRecursion P xs
    → AllByRecursion P (slice_range xs a b)
all-slice P xs a b h = all-take P (b - a) (drop a xs) (all-drop P a xs h)

pass-drop : {X : Type 0} (p : X → Bool) (n : ℕ) (xs : List X) → list_all p xs ≡ true → list_all p (drop n xs) ≡ true
pass-drop p zero xs h = h
pass-drop p (suc n) [] h = refl
pass-drop p (suc n) (x ∷ xs) h = pass-drop p n xs (both_true (p x) (list_all p xs) h).1

both : (a b : Bool) → a ≡ true → b ≡ true → (a && b) ≡ true
both a b h k = rw (h, k) refl

pass-take : {X : Type 0} (p : X → Bool) (n : ℕ) (xs : List X) → list_all p xs ≡ true → list_all p (take n xs) ≡ true
pass-take p zero xs h = refl
pass-take p (suc n) [] h = refl
pass-take p (suc n) (x ∷ xs) h =
    let parts = both_true (p x) (list_all p xs) h in
    both (p x) (list_all p (take n xs)) parts.0 (pass-take p n xs parts.1)

pub pass-slice : {X : Type 0} (p : X → Bool) (xs : List X) (a b : ℕ) → list_all p xs ≡ true
    → list_all p (slice_range xs a b) ≡ true
pass-slice p xs a b h = pass-take p (b - a) (drop a xs) (pass-drop p a xs h)

pub all-append : {X : Type 0} (P : X → Type 0) (xs ys : List X) → AllByRecursion P xs → AllByRecursion P ys
    → AllByRecursion P (xs ++ ys)
all-append P [] ys h k = k
all-append P (x ∷ xs) ys h k = (h.0, all-append P xs ys h.1 k)

pub pass-append : {X : Type 0} (p : X → Bool) (xs ys : List X) → list_all p xs ≡ true → list_all p ys ≡ true
    → list_all p (xs ++ ys) ≡ true
pass-append p xs ys h k = list_all-append p xs ys ∙ both (list_all p xs) (list_all p ys) h k

-- ---- the rows of one pick more

pub picked-more : (picks : List Picked) (i : ℕ) (p : Picked) → i < length picks → p ≡ get_or picks i p
    → rows_picked (take (i + 1) picks) ≡ rows_picked (take i picks) ++ rows_of p
picked-more picks i p lt is =
    ap rows_picked (take_more picks i p lt ∙ ap (λ (x : Picked). take i picks ++ x ∷ []) (sym is))
    ∙ flat_map-append rows_of (take i picks) (p ∷ [])
    ∙ ap (λ (l : List Numbered). rows_picked (take i picks) ++ l) (append-nil (rows_of p))

pub picked-map-more : {Y : Type 0} (f : Numbered → Y) (picks : List Picked) (i : ℕ) (p : Picked) → i < length picks
    → p ≡ get_or picks i p
    → map f (rows_picked (take (i + 1) picks)) ≡ map f (rows_picked (take i picks)) ++ map f (rows_of p)
picked-map-more f picks i p lt is =
    ap (map f) (picked-more picks i p lt is) ∙ map-append f (rows_picked (take i picks)) (rows_of p)
