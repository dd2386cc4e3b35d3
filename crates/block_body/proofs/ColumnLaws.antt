-- What columns hold.
use Rattle.std.proofs.Common.{◌≡◌, ◌∙◌, ◌<◌, ◌≤◌, ℕ, zero, suc, List, [], ◌∷◌, Bor, Some, ap, arith, get_or, length}
use Rattle.std.proofs.Common.{map, refl, slice_get}
use Rattle.std.specs.Prelude.{sum_by}
use Rattle.std.proofs.lemmas.List.Sums.{sum_by-cons}
use Rattle.byte_format.proofs.Cases.{some_is}
use Rattle.log_model.specs.History.{Numbered}
use Rattle.block_model.specs.Columns.{names_of, values_of}
use Rattle.word_filter.proofs.Sets.{text_of}
use Rattle.block_body.proofs.HeldLaws.{get-map}

-- texts that are lent, each alone in a column
pub each-alone : (texts : List (Bor (List ℕ)))
    → map (λ (value : List ℕ). value ∷ []) (map text_of texts) ≡ map (λ t. text_of t ∷ []) texts
each-alone [] = refl
each-alone (t ∷ ts) = ap (λ (l : List (List (List ℕ))). (text_of t ∷ []) ∷ l) (each-alone ts)

-- the column of one value
pub alone-at : (values : List (List ℕ)) (c : ℕ) (v : List ℕ) → slice_get values c ≡ Some v
    → get_or (map (λ (value : List ℕ). value ∷ []) values) c [] ≡ v ∷ []
alone-at [] c v e = absurd cc
alone-at (x ∷ xs) zero v e = ap (λ (y : List ℕ). y ∷ []) (some_is x v e)
alone-at (x ∷ xs) (suc c) v e = alone-at xs c v e

-- no value is longer than all together
pub short-at : (values : List (List ℕ)) (c : ℕ) (v : List ℕ) → slice_get values c ≡ Some v
    → length v ≤ sum_by length values
short-at [] c v e = absurd cc
short-at (x ∷ xs) zero v e = omega (arith, sum_by-cons length x xs, ap length (some_is x v e))
short-at (x ∷ xs) (suc c) v e = omega (arith, sum_by-cons length x xs, short-at xs c v e)

-- the values of a column
pub values-at : (rows : List Numbered) (columns : List (List (List ℕ))) (c : ℕ)
    → columns ≡ map (values_of rows) (names_of rows) → c < length (names_of rows)
    → get_or columns c [] ≡ values_of rows (get_or (names_of rows) c [])
values-at rows columns c h lt =
    ap (λ (l : List (List (List ℕ))). get_or l c []) h ∙ get-map (values_of rows) (names_of rows) c [] [] lt
