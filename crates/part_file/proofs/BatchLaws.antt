-- Blocks that get another number of their batch, one after another.
use Rattle.std.proofs.Common.{◌≡◌, ℕ, ◌+◌, ◌<◌, List, [], ◌∷◌, ◌++◌, length, map, take, get_or, drop, set, sym, ap, subst, ◌∙◌, arith}
use Rattle.std.specs.List.{All}
use Rattle.std.proofs.lemmas.List.{append-nil, append_assoc, drop_all, drop_more, get_or_at, length-map, length-take}
use Rattle.std.proofs.lemmas.List.{map_more, set_at, take_all}
use Rattle.log_model.specs.History.{AreOfOneBatch, Numbered}

-- the first blocks have the number, and the others stay
abbrev pub ChangedTo : (List Numbered → List Numbered) → List (List Numbered) → ℕ → List (List Numbered) → Type 0
ChangedTo f blocks i new = new ≡ map f (take i blocks) ++ drop i blocks

front-length : (f : List Numbered → List Numbered) (blocks : List (List Numbered)) (i : ℕ) → i < length blocks
    → length (map f (take i blocks)) ≡ i
front-length f blocks i lt = omega (arith, length-map (take i blocks) f, length-take i blocks, lt)

parts : (f : List Numbered → List Numbered) (blocks new : List (List Numbered)) (i : ℕ) (x : List Numbered)
    → i < length blocks → ChangedTo f blocks i new
    → new ≡ map f (take i blocks) ++ get_or blocks i x ∷ drop (i + 1) blocks
parts f blocks new i x lt e = e ∙ ap (λ (l : List (List Numbered)). map f (take i blocks) ++ l) (drop_more blocks i x lt)

-- the next one is as it was
pub next-is : (f : List Numbered → List Numbered) (blocks new : List (List Numbered)) (i : ℕ) (x : List Numbered)
    → i < length blocks → ChangedTo f blocks i new → x ≡ get_or new i x → x ≡ get_or blocks i x
next-is f blocks new i x lt e is =
    is ∙ ap (λ (l : List (List Numbered)). get_or l i x) (parts f blocks new i x lt e)
    ∙ get_or_at (map f (take i blocks)) (get_or blocks i x) (drop (i + 1) blocks) x i (front-length f blocks i lt)

pub next-one : (f : List Numbered → List Numbered) (blocks new : List (List Numbered)) (i : ℕ) (x : List Numbered)
    → i < length blocks → ChangedTo f blocks i new → x ≡ get_or new i x → All AreOfOneBatch blocks → AreOfOneBatch x
next-one f blocks new i x lt e is one = subst AreOfOneBatch (sym (next-is f blocks new i x lt e is)) (one i x lt)

pub changed-more : (f : List Numbered → List Numbered) (blocks new : List (List Numbered)) (i : ℕ) (x y : List Numbered)
    → i < length blocks → ChangedTo f blocks i new → x ≡ get_or new i x → y ≡ f x
    → ChangedTo f blocks (i + 1) (set new i y)
changed-more f blocks new i x y lt e is to =
    let front : map f (take (i + 1) blocks) ≡ map f (take i blocks) ++ f (get_or blocks i x) ∷ [] = map_more f blocks i x lt
    in
    let here : y ≡ f (get_or blocks i x) = to ∙ ap f (next-is f blocks new i x lt e is) in
    ap (λ (l : List (List Numbered)). set l i y) (parts f blocks new i x lt e)
    ∙ set_at (map f (take i blocks)) (get_or blocks i x) (drop (i + 1) blocks) y i (front-length f blocks i lt)
    ∙ ap (λ (b : List Numbered). map f (take i blocks) ++ b ∷ drop (i + 1) blocks) here
    ∙ sym (append_assoc (map f (take i blocks)) (f (get_or blocks i x) ∷ []) (drop (i + 1) blocks))
    ∙ ap (λ (l : List (List Numbered)). l ++ drop (i + 1) blocks) (sym front)

pub changed-all : (f : List Numbered → List Numbered) (blocks new : List (List Numbered)) (i : ℕ) → length blocks ≡ i
    → ChangedTo f blocks i new → new ≡ map f blocks
changed-all f blocks new i end e =
    e ∙ ap (λ (l : List (List Numbered)). map f (take i blocks) ++ l) (drop_all i blocks (omega (arith, end)))
    ∙ append-nil (map f (take i blocks))
    ∙ ap (map f) (take_all i blocks (omega (arith, end)))
