-- Rows of one stream.
use Rattle.std.proofs.Common.{◌≡◌, ◌-◌, ◌≤◌, Bool, List, [], ◌∷◌, length, get_or, drop, take}
use Rattle.std.proofs.Common.{refl, sym, ap, subst, ◌∙◌, arith}
use Rattle.std.specs.Prelude.{◌↔◌, IsTrue}
use Rattle.std.specs.List.{AllByRecursion}
use Rattle.std.proofs.lemmas.List.{take_all}
use Rattle.log_model.specs.Field.{Field}
use Rattle.log_model.specs.History.{Numbered}
use Rattle.block_format.specs.Rows.{labels_of}

abbrev AreOf : List Field → List Numbered → Type 0
AreOf labels rows = AllByRecursion (λ (numbered : Numbered). numbered.row.labels ≡ labels) rows

-- all rows have the labels of the first
pub one-stream : (b : Bool) (rows : List Numbered) (first : Numbered) (labels : List Field) → 1 ≤ length rows
    → first ≡ get_or rows 0 first → labels ≡ first.row.labels
    → (IsTrue b ↔ AllByRecursion (λ (numbered : Numbered). numbered.row.labels ≡ labels) (take (length rows - 1)
    (drop 1 rows)))
    → (IsTrue b ↔ AllByRecursion (λ (numbered : Numbered). numbered.row.labels ≡ labels_of rows) rows)
one-stream b [] first labels some e l h = absurd (omega (arith, some))
one-stream b (n ∷ ns) first labels some e l h =
    let same : labels ≡ n.row.labels = l ∙ ap (λ (m : Numbered). m.row.labels) e in
    let rest : take (length (n ∷ ns) - 1) ns ≡ ns = take_all (length (n ∷ ns) - 1) ns (omega arith) in (
      λ t. (refl, subst (λ (k : List Field). AreOf k ns) same (subst (AreOf labels) rest (h.0 t))),
      λ all. h.1 (subst (AreOf labels) (sym rest) (subst (λ (k : List Field). AreOf k ns) (sym same) all.1)),
    )
