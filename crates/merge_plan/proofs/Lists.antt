-- What a test passes, and what holds of each element.
use Rattle.std.proofs.Common.{◌≡◌, ℕ, zero, ◌+◌, ◌-◌, ◌<◌, suc, sym, map, take, drop, get_or, Bool, true, false, cond}
use Rattle.std.proofs.Common.{List, [], ◌∷◌, ◌++◌, Some, None, length, refl, ap, ◌∙◌, arith}
use Rattle.std.specs.Prelude.{Err, Ok, OnOk, Option, Result}
use Rattle.std.specs.List.{AllByRecursion, filter, last_or, slice_get}
use Rattle.std.specs.List.Sorted.{IsPermutation}
use Rattle.std.proofs.lemmas.List.Elements.{All-from_recursion, recursion_from_All}
use Rattle.std.proofs.lemmas.List.Sorted.{All-permutation}

pub all-append : {X : Type 0} (P : X → Type 0) (xs ys : List X) → AllByRecursion P xs → AllByRecursion P ys
    → AllByRecursion P (xs ++ ys)
all-append P [] ys h g = g
all-append P (x ∷ xs) ys h g = (h.0, all-append P xs ys h.1 g)

pub all-parts : {X : Type 0} (P : X → Type 0) (xs ys : List X) → AllByRecursion P (xs ++ ys)
    → AllByRecursion P xs × AllByRecursion P ys
all-parts P [] ys h = (tt, h)
all-parts P (x ∷ xs) ys h = let parts = all-parts P xs ys h.1 in ((h.0, parts.0), parts.1)

pub all-weaker : {X : Type 0} (P Q : X → Type 0) → ((x : X) → P x → Q x) → (xs : List X) → AllByRecursion P xs
    → AllByRecursion Q xs
all-weaker P Q leads [] h = tt
all-weaker P Q leads (x ∷ xs) h = (leads x h.0, all-weaker P Q leads xs h.1)

pub none-pass : {X : Type 0} (p : X → Bool) (xs : List X) → AllByRecursion (λ x. p x ≡ false) xs → filter p xs ≡ []
none-pass p [] h = refl
none-pass p (x ∷ xs) h = ap (λ t. cond t (x ∷ filter p xs) (filter p xs)) h.0 ∙ none-pass p xs h.1

fails : {X : Type 0} (p : X → Bool) (x : X) (xs : List X)
    → (filter p xs ≡ [] → AllByRecursion (λ (y : X). p y ≡ false) xs) → (t : Bool) → p x ≡ t
    → cond t (x ∷ filter p xs) (filter p xs) ≡ [] → AllByRecursion (λ (y : X). p y ≡ false) (x ∷ xs)
fails p x xs rest true e none = cc
fails p x xs rest false e none = (e, rest none)

pub all-fail : {X : Type 0} (p : X → Bool) (xs : List X) → filter p xs ≡ [] → AllByRecursion (λ (y : X). p y ≡ false) xs
all-fail p [] none = tt
all-fail p (x ∷ xs) none = fails p x xs (all-fail p xs) (p x) refl none

passes : {X : Type 0} (P : X → Type 0) (x : X) (rest kept : List X) → P x → AllByRecursion P kept → (t : Bool)
    → AllByRecursion P (cond t (x ∷ kept) kept)
passes P x rest kept here all true = (here, all)
passes P x rest kept here all false = all

pub all-filter : {X : Type 0} (P : X → Type 0) (p : X → Bool) (xs : List X) → AllByRecursion P xs
    → AllByRecursion P (filter p xs)
all-filter P p [] h = tt
all-filter P p (x ∷ xs) h = passes P x xs (filter p xs) h.0 (all-filter P p xs h.1) (p x)

pub all-both : {X : Type 0} (P Q R : X → Type 0) → ((x : X) → P x → Q x → R x) → (xs : List X) → AllByRecursion P xs
    → AllByRecursion Q xs → AllByRecursion R xs
all-both P Q R leads [] h g = tt
all-both P Q R leads (x ∷ xs) h g = (leads x h.0 g.0, all-both P Q R leads xs h.1 g.1)

last-got : {X : Type 0} (x : X) (xs : List X) → slice_get (x ∷ xs) (length xs) ≡ last_or (Some x) xs
last-got x [] = refl
last-got x (y ∷ ys) = last-got y ys

-- the last item, as `last` gets it
pub last-is : {X : Type 0} (xs : List X) → slice_get xs (length xs - 1) ≡ last_or None xs
last-is [] = refl
last-is (x ∷ xs) =
    let count : suc (length xs) - 1 ≡ length xs = omega arith in
    ap (λ n. slice_get (x ∷ xs) n) count ∙ last-got x xs

pub on-ok : {A E : Type 0} (r : Result A E) (P Q : Type 0) → (P → Q) → OnOk r P → OnOk r Q
on-ok (Ok x) P Q leads h = leads h
on-ok (Err e) P Q leads h = tt

pub all-permutation : {X : Type 0} (P : X → Type 0) (xs ys : List X) → IsPermutation xs ys → AllByRecursion P xs
    → AllByRecursion P ys
all-permutation P xs ys same h = recursion_from_All P ys (All-permutation P xs ys same (All-from_recursion P xs h))

pub all-always : {X : Type 0} (P : X → Type 0) → ((x : X) → P x) → (xs : List X) → AllByRecursion P xs
all-always P always [] = tt
all-always P always (x ∷ xs) = (always x, all-always P always xs)

pub all-drop : {X : Type 0} (P : X → Type 0) (i : ℕ) (xs : List X) → AllByRecursion P xs → AllByRecursion P (drop i xs)
all-drop P zero xs h = h
all-drop P (suc i) [] h = tt
all-drop P (suc i) (x ∷ xs) h = all-drop P i xs h.1

cut-left : {X Y : Type 0} (f : X → Y) (xs : List X) (i : ℕ) (x : X) → i < length xs → x ≡ get_or xs i x
    → take (suc i) (map f xs) ≡ take i (map f xs) ++ f x ∷ []
cut-left f [] i x lt is = absurd (omega arith)
cut-left f (y ∷ ys) zero x lt is = ap (λ z. f z ∷ []) (sym is)
cut-left f (y ∷ ys) (suc i) x lt is = ap (λ l. f y ∷ l) (cut-left f ys i x (omega arith) is)

cut-right : {X Y : Type 0} (f : X → Y) (xs : List X) (i : ℕ) (x : X) → i < length xs → x ≡ get_or xs i x
    → drop i (map f xs) ≡ f x ∷ drop (suc i) (map f xs)
cut-right f [] i x lt is = absurd (omega arith)
cut-right f (y ∷ ys) zero x lt is = ap (λ z. f z ∷ map f ys) (sym is)
cut-right f (y ∷ ys) (suc i) x lt is = cut-right f ys i x (omega arith) is

-- One more item of a list comes out of what is left.
pub taken-more : {X Y : Type 0} (f : X → Y) (xs : List X) (i : ℕ) (x : X) → i < length xs → x ≡ get_or xs i x
    → take (i + 1) (map f xs) ≡ take i (map f xs) ++ f x ∷ []
taken-more f xs i x lt is =
    let next : i + 1 ≡ suc i = omega arith in ap (λ n. take n (map f xs)) next ∙ cut-left f xs i x lt is

pub left-more : {X Y : Type 0} (f : X → Y) (xs : List X) (i : ℕ) (x : X) → i < length xs → x ≡ get_or xs i x
    → drop i (map f xs) ≡ f x ∷ drop (i + 1) (map f xs)
left-more f xs i x lt is =
    let next : suc i ≡ i + 1 = omega arith in cut-right f xs i x lt is ∙ ap (λ n. f x ∷ drop n (map f xs)) next
