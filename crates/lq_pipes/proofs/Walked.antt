-- Walks over a list: a fact of its first elements, and of one more.
use Rattle.std.proofs.Common.{◌≡◌, ℕ, zero, suc, ◌+◌, ◌<◌, ◌≤◌, List, [], ◌∷◌, ◌++◌, drop, flat_map, fold, get_or}
use Rattle.std.proofs.Common.{length, map, take, refl, sym, ap, ◌∙◌, add-one, arith}
use Rattle.std.proofs.lemmas.List.{append-nil, drop_all, map-append}
use Rattle.std.proofs.lemmas.Grind.{flat_map-append}
use Rattle.std.specs.List.{AllByRecursion}

take_suc : {X : Type 0} (xs : List X) (i : ℕ) (x : X) → i < length xs → x ≡ get_or xs i x
    → take (suc i) xs ≡ take i xs ++ x ∷ []
take_suc [] i x below is = absurd (omega arith)
take_suc (y ∷ ys) zero x below is = ap (λ z. z ∷ []) (sym is)
take_suc (y ∷ ys) (suc i) x below is = ap (λ zs. y ∷ zs) (take_suc ys i x (omega arith) is)

pub one_more : {X : Type 0} (xs : List X) (i : ℕ) (x : X) → i < length xs → x ≡ get_or xs i x
    → take (i + 1) xs ≡ take i xs ++ x ∷ []
one_more xs i x below is = rw add-one (take_suc xs i x below is)

pub whole_taken : {X : Type 0} (xs : List X) (i : ℕ) → length xs ≤ i → take i xs ≡ xs
whole_taken [] zero ends = refl
whole_taken [] (suc i) ends = refl
whole_taken (x ∷ xs) zero ends = absurd (omega arith)
whole_taken (x ∷ xs) (suc i) ends = ap (λ ys. x ∷ ys) (whole_taken xs i (omega arith))

-- ---- a step of a fold over the elements

fold_append : {A B : Type 0} (g : B → A → B) (a : B) (xs ys : List A) → fold g a (xs ++ ys) ≡ fold g (fold g a xs) ys
fold_append g a [] ys = refl
fold_append g a (x ∷ xs) ys = fold_append g (g a x) xs ys

pub fold_more : {A B C : Type 0} (g : B → A → B) (f : C → A) (a : B) (xs : List C) (i : ℕ) (x : C) → i < length xs
    → x ≡ get_or xs i x → fold g a (map f (take (i + 1) xs)) ≡ g (fold g a (map f (take i xs))) (f x)
fold_more g f a xs i x below is =
    ap (λ ys. fold g a (map f ys)) (one_more xs i x below is)
    ∙ ap (fold g a) (map-append f (take i xs) (x ∷ []))
    ∙ fold_append g a (map f (take i xs)) (f x ∷ [])

-- ---- the things that the elements have

pub things_more : {A B C : Type 0} (p : A → List B) (f : C → A) (xs : List C) (i : ℕ) (x : C) → i < length xs
    → x ≡ get_or xs i x → flat_map p (map f (take (i + 1) xs)) ≡ flat_map p (map f (take i xs)) ++ p (f x)
things_more p f xs i x below is =
    ap (λ ys. flat_map p (map f ys)) (one_more xs i x below is)
    ∙ ap (flat_map p) (map-append f (take i xs) (x ∷ []))
    ∙ flat_map-append p (map f (take i xs)) (f x ∷ [])
    ∙ ap (λ ys. flat_map p (map f (take i xs)) ++ ys) (append-nil (p (f x)))

-- ---- what holds of all

pub all_more : {X : Type 0} (P : X → Type 0) (xs ys : List X) → AllByRecursion P xs → AllByRecursion P ys
    → AllByRecursion P (xs ++ ys)
all_more P [] ys g h = h
all_more P (x ∷ xs) ys g h = (g.0, all_more P xs ys g.1 h)

-- ---- a write over each element of a vector

written : {X : Type 0} (items old : List X) → length items ≡ length old
    → take (length old) (items ++ drop (length items) old) ≡ items
written items old same =
    ap (λ ys. take (length old) (items ++ ys)) (drop_all (length items) old (omega arith))
    ∙ ap (take (length old)) (append-nil items) ∙ whole_taken items (length old) (omega arith)

pub each_written : {X : Type 0} (f : X → X) (r old init items : List X) (i len : ℕ) (result : List X)
    → old ≡ r → init ≡ old → length init ≤ i → length items ≡ length init → items ≡ map f (take i init) ++ drop i init
    → len ≡ length old → result ≡ take len (items ++ drop (length items) old) → result ≡ map f r
each_written f r old init items i len result from start ends long is size e =
    let same : length items ≡ length old = long ∙ ap length start in
    e ∙ ap (λ n. take n (items ++ drop (length items) old)) size ∙ written items old same ∙ is
    ∙ ap (λ ys. map f ys ++ drop i init) (whole_taken init i ends) ∙ ap (λ ys. map f init ++ ys) (drop_all i init ends)
    ∙ append-nil (map f init) ∙ ap (map f) (start ∙ from)
