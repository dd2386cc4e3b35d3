use Rattle.std.proofs.Common.{◌≡◌, ◌∙◌, ◌∷◌, ℕ, zero, suc, List, Bor, ap, map, refl}
use Rattle.std.specs.Prelude.{replicate}
use Rattle.block_column.proofs.row_texts.repeated.Goals as goal

abbrev now_of : Bor (List ℕ) → List ℕ
now_of t = t.now

alike : (n : ℕ) (t : Bor (List ℕ)) → map now_of (replicate n t) ≡ replicate n t.now
alike zero t = refl
alike (suc n) t = ap (λ (l : List (List ℕ)). t.now ∷ l) (alike n t)

pub returns : goal.returns
returns c =
    ap (map now_of) (c.in_ok-texts.ensures.items_if_clones_equal (λ y h. h)) ∙ alike c.args.rows c.args.text
