-- The text of an object, member by member, and the print of its tokens.
use Rattle.std.proofs.Common.{◌≡◌, ℕ, Bool, true, false, cond, List, [], ◌∷◌, ◌++◌, map, refl, ap, sym, ◌∙◌}
use Rattle.std.proofs.Common.{append_assoc}
use Rattle.std.specs.List.{join_with_byte}
use Rattle.json.specs.Print.{print, print_from, quoted}
use Rattle.json.specs.Token.{end_object}
use Rattle.log_model.specs.Field.{Field}
use Rattle.log_model.specs.Print.{member_text, object_text}
use Rattle.lq_pipes.specs.Tokens.{members_tokens, object_tokens}

-- the members and the end of an object, with a comma before the first of them where another one came earlier
abbrev pub rest_text : Bool → List Field → List ℕ
rest_text later [] = 125 ∷ []
rest_text later (field ∷ fields) = cond later (44 ∷ []) [] ++ (member_text field ++ rest_text true fields)

joined : (field : Field) (fields : List Field)
    → join_with_byte 44 (map member_text (field ∷ fields)) ++ 125 ∷ [] ≡ member_text field ++ rest_text true fields
joined field [] = refl
joined field (next ∷ fields) =
    append_assoc (member_text field) _ _ ∙ ap (λ text. member_text field ++ 44 ∷ text) (joined next fields)

pub object_text-rest : (fields : List Field) → object_text fields ≡ 123 ∷ rest_text false fields
unfolding object_text
object_text-rest [] = refl
object_text-rest (field ∷ fields) = ap (λ text. 123 ∷ text) (joined field fields)

member_first : (name value rest : List ℕ) → (name ++ 58 ∷ []) ++ (value ++ rest) ≡ (name ++ 58 ∷ value) ++ rest
member_first name value rest = append_assoc name (58 ∷ []) (value ++ rest) ∙ sym (append_assoc name (58 ∷ value) rest)

print_rest : (later : Bool) (fields : List Field)
    → print_from later (members_tokens fields ++ end_object ∷ []) ≡ rest_text later fields
unfolding print_from
print_rest true [] = refl
print_rest false [] = refl
print_rest true (field ∷ fields) =
    ap (λ text. 44 ∷ text) (member_first (quoted field.0) (quoted field.1) _ ∙ ap (λ text. member_text field ++ text) (print_rest true fields))
print_rest false (field ∷ fields) =
    member_first (quoted field.0) (quoted field.1) _ ∙ ap (λ text. member_text field ++ text) (print_rest true fields)

pub print-object_tokens : (fields : List Field) → print (object_tokens fields) ≡ object_text fields
unfolding print_from
print-object_tokens fields = ap (λ text. 123 ∷ text) (print_rest false fields) ∙ sym (object_text-rest fields)
