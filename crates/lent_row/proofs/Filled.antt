-- Cells that have values.
use Rattle.std.proofs.Common.{◌≡◌, ℕ, ℤ, pos, negsuc, suc, ◌<◌, ◌^◌, Bool, true, false, not, ◌||◌, ◌&&◌, cond}
use Rattle.std.proofs.Common.{List, [], ◌∷◌, filter, length, FitsSigned, refl, ap, ◌∙◌, arith, w64}
use Rattle.std.specs.Fmt.{decimal, signed_decimal}
use Rattle.std.specs.List.{list_all}
use Rattle.std.proofs.lemmas.Bool.{false≢true, le-ltb}
use Rattle.std.proofs.lemmas.Fmt.{decimal_nonempty}
use Rattle.std.proofs.lemmas.Int.{ints}
use Rattle.log_model.specs.Field.{Field, IsFieldList, is_empty, is_filled}
use Rattle.lent_row.specs.Cells.{has_value}

-- the text of an integer is not empty
pub integer_some : (n : ℤ) → FitsSigned w64 n → is_empty (signed_decimal n) ≡ false
integer_some (pos n) fits =
    let small : n < 2 ^ 64 = omega (arith, ints, fits) in
    le-ltb (length (decimal n)) 1 (decimal_nonempty n small)
integer_some (negsuc n) fits = le-ltb (length (45 ∷ decimal (suc n))) 1 (omega arith)

both : (a b : Bool) → (a && b) ≡ true → (a ≡ true) × (b ≡ true)
both true b h = (refl, h)
both false b h = absurd (false≢true h)

valued : (name value : Bool) → not (name || value) ≡ true → not value ≡ true
valued true value h = absurd (false≢true h)
valued false value h = h

all_valued : (fields : List Field) → list_all is_filled fields ≡ true → filter has_value fields ≡ fields
all_valued [] filled = refl
all_valued (field ∷ fields) filled =
    let parts = both (is_filled field) (list_all is_filled fields) filled in
    ap (λ test. cond test (field ∷ filter has_value fields) (filter has_value fields))
    (valued (is_empty field.0) (is_empty field.1) parts.0)
    ∙ ap (λ later. field ∷ later) (all_valued fields parts.1)

-- each cell of a list of fields has a value
pub all_filled : (fields : List Field) → IsFieldList fields → filter has_value fields ≡ fields
all_filled fields rules = all_valued fields rules.filled
