-- One more token of a list.
use Rattle.std.proofs.Common.{◌≡◌, ℕ, zero, suc, ◌+◌, List, [], ◌∷◌, ◌++◌, take, map, Some, sym, ap, ◌∙◌, add-one}
use Rattle.std.specs.List.{slice_get}
use Rattle.grammar.specs.Rule.{Token}
use Rattle.lq_lex.specs.Token.{Token as Piece}
use Rattle.lq_grammar.specs.Values.{Bytes}
use Rattle.lq_grammar.specs.Items.{item_of}

some_inj : (x y : Piece) → Some x ≡ Some y → x ≡ y
some_inj x y e = cc

map_take : (ts : List Piece) (i : ℕ) (t : Piece) → slice_get ts i ≡ Some t
    → map item_of (take (suc i) ts) ≡ map item_of (take i ts) ++ item_of t ∷ []
map_take [] i t e = absurd cc
map_take (x ∷ ts) zero t e = ap (λ (p : Piece). item_of p ∷ []) (some_inj x t e)
map_take (x ∷ ts) (suc i) t e = ap (λ (l : List (Token Bytes)). item_of x ∷ l) (map_take ts i t e)

pub one_more : (ts : List Piece) (i : ℕ) (t : Piece) (list longer : List (Token Bytes)) (item : Token Bytes)
    → slice_get ts i ≡ Some t → list ≡ map item_of (take i ts) → item ≡ item_of t → longer ≡ list ++ item ∷ []
    → longer ≡ map item_of (take (i + 1) ts)
one_more ts i t list longer item at is made more =
    more ∙ ap (λ (l : List (Token Bytes)). l ++ item ∷ []) is
    ∙ ap (λ (x : Token Bytes). map item_of (take i ts) ++ x ∷ []) made ∙ sym (map_take ts i t at)
    ∙ ap (λ (n : ℕ). map item_of (take n ts)) (sym (add-one i))
