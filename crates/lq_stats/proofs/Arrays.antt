-- The items of a JSON array, one after another.
use Rattle.std.proofs.Common.{◌≡◌, ℕ, ◌-◌, ◌<◌, ◌≤◌, List, [], ◌∷◌, ◌++◌, length, map, take, drop, get_or, Bor}
use Rattle.std.proofs.Common.{append-nil, refl, sym, ap, ◌∙◌, arith}
use Rattle.std.proofs.lemmas.List.{take_all}
use Rattle.std.specs.List.{join_with_byte}
use Rattle.json.specs.Print.{quoted}
use Rattle.lq_ast.specs.Statistics.{array_text}

-- each after a comma
abbrev pub later_items : List (List ℕ) → List ℕ
later_items [] = []
later_items (text ∷ texts) = (44 ∷ quoted text) ++ later_items texts

pub items_joined : (text : List ℕ) (texts : List (List ℕ))
    → join_with_byte 44 (map quoted (text ∷ texts)) ≡ quoted text ++ later_items texts
items_joined text [] = sym (append-nil (quoted text))
items_joined text (other ∷ texts) = ap (λ l. quoted text ++ (44 ∷ l)) (items_joined other texts)

-- the text of an array, from what its loop kept
pub array_is : (before whole : List ℕ) (first : List ℕ) (texts : List (List ℕ)) → before ≡ (91 ∷ []) ++ quoted first
    → whole ++ [] ≡ before ++ later_items texts
    → whole ++ 93 ∷ [] ≡ array_text (first ∷ texts)
array_is before whole first texts begun h =
    ap (λ l. l ++ 93 ∷ [])
    (sym (append-nil whole) ∙ h ∙ ap (λ l. l ++ later_items texts) begun
    ∙ sym (ap (λ l. 91 ∷ l) (items_joined first texts)))

-- the same of the texts as they lie in memory
pub array_made : (texts left : List (Bor (List ℕ))) (none : Bor (List ℕ)) (whole : List ℕ) → 1 ≤ length texts
    → length left < 1
    → whole ++ later_items (map (λ text. text.now) left)
    ≡ ((91 ∷ []) ++ quoted (get_or texts 0 none).now)
    ++ later_items (map (λ text. text.now) (take (length texts - 1) (drop 1 texts)))
    → whole ++ (93 ∷ []) ≡ array_text (map (λ text. text.now) texts)
array_made [] left none whole some end h = absurd (omega arith)
array_made (t ∷ ts) (u ∷ us) none whole some end h = absurd (omega arith)
array_made (t ∷ ts) [] none whole some end h =
    let behind : length (t ∷ ts) - 1 ≡ length ts = omega arith in
    let rest : take (length (t ∷ ts) - 1) ts ≡ ts = ap (λ n. take n ts) behind ∙ take_all (length ts) ts (omega arith) in
    array_is ((91 ∷ []) ++ quoted t.now) whole t.now (map (λ text. text.now) ts) refl
    (h ∙ ap (λ l. ((91 ∷ []) ++ quoted t.now) ++ later_items (map (λ text. text.now) l)) rest)
