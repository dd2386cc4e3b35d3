-- The order of labels, one after another.
use Rattle.std.proofs.Common.{◌≡◌, ℕ, zero, suc, ◌+◌, ◌<◌, ◌≤◌, min, List, [], ◌∷◌, length, get_or, drop, refl, sym, ap}
use Rattle.std.proofs.Common.{◌∙◌, arith, subst, true}
use Rattle.std.specs.Prelude.{bytes_eq}
use Rattle.std.specs.Ordering.{nat_cmp, ordering_then}
use Rattle.std.specs.declared.cmp.Ordering.{Ordering}
use Rattle.std.specs.declared.cmp.Ordering.TheVariants.{Equal, Greater, Less}
use Rattle.std.proofs.lemmas.Bool.Decides.{nat_tests}
use Rattle.std.proofs.lemmas.Cmp.{nat_list_cmp_total, tied_itself}
use Rattle.std.proofs.lemmas.List.{drop_more}
use Rattle.std.proofs.lemmas.Slice.Eq.{bytes_eq-Decides}
use Rattle.log_model.specs.Field.{Field, bytes_cmp}
use Rattle.part_model.specs.Order.{label_cmp, labels_cmp}

step : (xs ys : List Field) (i : ℕ) (x y : Field) → i < length xs → i < length ys → x ≡ get_or xs i x → y ≡ get_or ys i y
    → labels_cmp (drop i xs) (drop i ys)
    ≡ ordering_then (label_cmp x y) (labels_cmp (drop (i + 1) xs) (drop (i + 1) ys))
step xs ys i x y lt also is is_other =
    let left : drop i xs ≡ x ∷ drop (i + 1) xs = drop_more xs i x lt ∙ ap (λ (f : Field). f ∷ drop (i + 1) xs) (sym is) in
    let right : drop i ys ≡ y ∷ drop (i + 1) ys = drop_more ys i y also ∙ ap (λ (f : Field). f ∷ drop (i + 1) ys) (sym
    is_other) in
    ap (λ (l : List Field). labels_cmp l (drop i ys)) left
    ∙ ap (λ (l : List Field). labels_cmp (x ∷ drop (i + 1) xs) l) right

-- two labels that are the same
pub step-equal : (xs ys : List Field) (i : ℕ) (x y : Field) (o : Ordering) → i < length xs → i < length ys
    → x ≡ get_or xs i x → y ≡ get_or ys i y → o ≡ label_cmp x y → o ≡ Equal
    → labels_cmp (drop i xs) (drop i ys) ≡ labels_cmp (drop (i + 1) xs) (drop (i + 1) ys)
step-equal xs ys i x y o lt also is is_other e f =
    step xs ys i x y lt also is is_other
    ∙ ap (λ (r : Ordering). ordering_then r (labels_cmp (drop (i + 1) xs) (drop (i + 1) ys))) (sym e ∙ f)

-- two that are not
pub step-other : (xs ys : List Field) (i : ℕ) (x y : Field) (o p : Ordering) → i < length xs → i < length ys
    → x ≡ get_or xs i x → y ≡ get_or ys i y → o ≡ label_cmp x y → o ≡ p
    → ((rest : Ordering) → ordering_then p rest ≡ p) → labels_cmp (drop i xs) (drop i ys) ≡ p
step-other xs ys i x y o p lt also is is_other e f first =
    step xs ys i x y lt also is is_other
    ∙ ap (λ (r : Ordering). ordering_then r (labels_cmp (drop (i + 1) xs) (drop (i + 1) ys))) (sym e ∙ f)
    ∙ first (labels_cmp (drop (i + 1) xs) (drop (i + 1) ys))

none-some : (n : ℕ) → nat_cmp 0 (suc n) ≡ Less
none-some n = grind (arith, nat_tests)

some-none : (n : ℕ) → nat_cmp (suc n) 0 ≡ Greater
some-none n = grind (arith, nat_tests)

both-some : (m n : ℕ) → nat_cmp (suc m) (suc n) ≡ nat_cmp m n
both-some m n = grind (arith, nat_tests)

-- one list begins the other
pub ends : (xs ys : List Field) (i : ℕ) → i ≤ length xs → i ≤ length ys → min (length xs) (length ys) ≤ i
    → nat_cmp (length xs) (length ys) ≡ labels_cmp (drop i xs) (drop i ys)
ends [] [] zero le also end = refl
ends [] [] (suc i) le also end = absurd (omega (arith, le))
ends [] (y ∷ ys) zero le also end = none-some (length ys)
ends [] (y ∷ ys) (suc i) le also end = absurd (omega (arith, le))
ends (x ∷ xs) [] zero le also end = some-none (length xs)
ends (x ∷ xs) [] (suc i) le also end = absurd (omega (arith, also))
ends (x ∷ xs) (y ∷ ys) zero le also end = absurd (omega (arith, end))
ends (x ∷ xs) (y ∷ ys) (suc i) le also end =
    both-some (length xs) (length ys) ∙ ends xs ys i (omega (arith, le)) (omega (arith, also)) (omega (arith, end))

-- ---- labels of one name

pub same-name : (n m : List ℕ) (o : Ordering) → bytes_eq n m ≡ true → ordering_then (bytes_cmp n m) o ≡ o
same-name n m o e =
    let same : n ≡ m = (bytes_eq-Decides n m).0 e in
    ap (λ (p : Ordering). ordering_then p o) (subst (λ (k : List ℕ). bytes_cmp n k ≡ Equal) same (tied_itself
    nat_list_cmp_total n))
