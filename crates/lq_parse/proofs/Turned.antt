-- Keys turned round one after another.
use Rattle.std.proofs.Common.{◌≡◌, ℕ, zero, suc, ◌+◌, ◌<◌, ◌≤◌, true, false, List, [], ◌∷◌, map, set, get_or, length}
use Rattle.std.proofs.Common.{refl, sym, ap, ◌∙◌, arith, add-one}
use Rattle.lq_ast.specs.PipeView.{sort_by}
use Rattle.lq_ast.specs.Stage.{SortBy}
use Rattle.lq_ast.specs.declared.pipe.SortKey.{SortKey}
use Rattle.lq_grammar.specs.Stages.{turned}

pub unturned : (keys : List SortBy) → map (turned false) keys ≡ keys
unturned [] = refl
unturned (key ∷ keys) = ap (λ (l : List SortBy). key ∷ l) (unturned keys)

-- the first n are turned round
abbrev pub mixed : ℕ → List SortBy → List SortBy
mixed zero keys = keys
mixed (suc i) [] = []
mixed (suc i) (key ∷ keys) = turned true key ∷ mixed i keys

pub all_mixed : (keys : List SortBy) (i : ℕ) → length keys ≤ i → mixed i keys ≡ map (turned true) keys
all_mixed [] zero h = refl
all_mixed [] (suc i) h = refl
all_mixed (key ∷ keys) zero h = absurd (omega arith)
all_mixed (key ∷ keys) (suc i) h = ap (λ (l : List SortBy). turned true key ∷ l) (all_mixed keys i (omega arith))

heads_same : (a b : SortBy) (k l : List SortBy) → a ∷ k ≡ b ∷ l → (a ≡ b) × (k ≡ l)
heads_same a b k l e = (cc, cc)

further : (keys : List SortKey) (start : List SortBy) (i : ℕ) (d key : SortKey) → map sort_by keys ≡ mixed i start
    → i < length keys → sort_by key ≡ turned true (sort_by (get_or keys i d))
    → map sort_by (set keys i key) ≡ mixed (suc i) start
further [] start i d key e h is = absurd (omega arith)
further (k ∷ keys) [] zero d key e h is = absurd cc
further (k ∷ keys) [] (suc i) d key e h is = absurd cc
further (k ∷ keys) (s ∷ start) zero d key e h is =
    let p = heads_same (sort_by k) s (map sort_by keys) start e in
    ap (λ (a : SortBy). a ∷ map sort_by keys) (is ∙ ap (turned true) p.0)
    ∙ ap (λ (l : List SortBy). turned true s ∷ l) p.1
further (k ∷ keys) (s ∷ start) (suc i) d key e h is =
    let p = heads_same (sort_by k) (turned true s) (map sort_by keys) (mixed i start) e in
    ap (λ (a : SortBy). a ∷ map sort_by (set keys i key)) p.0
    ∙ ap (λ (l : List SortBy). turned true s ∷ l) (further keys start i d key p.1 (omega arith) is)

pub one_turned : (keys : List SortKey) (start : List SortBy) (i : ℕ) (d key : SortKey)
    → map sort_by keys ≡ mixed i start → i < length keys → sort_by key ≡ turned true (sort_by (get_or keys i d))
    → map sort_by (set keys i key) ≡ mixed (i + 1) start
one_turned keys start i d key e h is =
    further keys start i d key e h is ∙ ap (λ (n : ℕ). mixed n start) (sym (add-one i))
