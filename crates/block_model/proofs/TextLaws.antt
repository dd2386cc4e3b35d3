-- Fields and rows in UTF-8.
use Rattle.std.proofs.Common.{◌≡◌, ℕ, ◌+◌, ◌<◌, Bool, true, List, length, take, get_or, refl, sym, ap, ◌∙◌}
use Rattle.std.specs.Prelude.{◌&&◌, IsUtf8}
use Rattle.std.specs.List.{list_all}
use Rattle.std.proofs.lemmas.List.Folds.{list_all_more}
use Rattle.std.proofs.lemmas.Str.{is_utf8-from_IsUtf8}
use Rattle.log_model.specs.Field.{Field}
use Rattle.block_model.specs.Texts.{is_text_field}

pub text-field : (field : Field) → IsUtf8 field.0 → IsUtf8 field.1 → is_text_field field ≡ true
text-field field name content =
    rw (is_utf8-from_IsUtf8 field.0 name, is_utf8-from_IsUtf8 field.1 content) refl

-- one more passes the test
pub passes-more : {X : Type 0} (p : X → Bool) (xs : List X) (i : ℕ) (x : X) → i < length xs → x ≡ get_or xs i x
    → list_all p (take i xs) ≡ true → p x ≡ true → list_all p (take (i + 1) xs) ≡ true
passes-more p xs i x lt is before here =
    list_all_more p xs i x lt
    ∙ ap (λ (b : Bool). b && p (get_or xs i x)) before
    ∙ ap p (sym is)
    ∙ here
