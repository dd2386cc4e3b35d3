-- The loop over labels.
use Rattle.std.proofs.Common.{◌≡◌, ℕ, Bool, true, false, cond, List, [], ◌∷◌, ◌++◌, map, refl, ap, ◌∙◌, append_assoc}
use Rattle.std.specs.List.{join_with_byte}
use Rattle.log_model.specs.Field.{Field}
use Rattle.log_model.specs.Stream.{label_text, labelled}

-- the remaining labels and the closing brace, after a comma if another label came earlier
abbrev pub rest_text : Bool → List Field → List ℕ
rest_text needs_comma [] = 125 ∷ []
rest_text needs_comma (label ∷ labels) = cond needs_comma (44 ∷ []) [] ++ (labelled label ++ rest_text true labels)

joined : (label : Field) (labels : List Field)
    → join_with_byte 44 (map labelled (label ∷ labels)) ++ 125 ∷ [] ≡ labelled label ++ rest_text true labels
joined label [] = refl
joined label (next ∷ labels) =
    append_assoc (labelled label) _ _ ∙ ap (λ text. labelled label ++ 44 ∷ text) (joined next labels)

pub label_text-rest : (labels : List Field) → label_text labels ≡ 123 ∷ rest_text false labels
unfolding label_text
label_text-rest [] = refl
label_text-rest (label ∷ labels) = ap (λ text. 123 ∷ text) (joined label labels)
