-- What a search of columns in order of their names says of the names.
use Rattle.std.proofs.Common.{◌≡◌, ℕ, zero, suc, Bool, true, false, ◌||◌, cond, List, [], ◌∷◌, map, Some, None, ap}
use Rattle.std.proofs.Common.{bytes_eq, refl, slice_get}
use Rattle.std.specs.Map.{lookup}
use Rattle.byte_format.proofs.Cases.{some_is}
use Rattle.log_model.specs.Field.{field_value}
use Rattle.vl_row.specs.Names.{is_among}
use Rattle.vl_row.specs.Place.{IsAt, IsGapAt}
use Rattle.block_body.specs.Outline.{NamedFilter}

name-at : (columns : List NamedFilter) (c : ℕ) (column : NamedFilter) → slice_get columns c ≡ Some column
    → slice_get (map (λ (x : NamedFilter). x.0) columns) c ≡ Some column.0
name-at [] c column e = absurd cc
name-at (x ∷ xs) zero column e = ap (λ (y : NamedFilter). Some y.0) (some_is x column e)
name-at (x ∷ xs) (suc c) column e = name-at xs c column e

-- the column that was found has the name
pub name-found : (columns : List NamedFilter) (name : List ℕ) (c : ℕ) → IsAt columns name c
    → slice_get (map (λ (x : NamedFilter). x.0) columns) c ≡ Some name
name-found columns name c at = name-at columns c (name, field_value columns name) at.found

none-named : (columns : List NamedFilter) (name : List ℕ) → lookup (bytes_eq name) columns ≡ None
    → is_among (map (λ (x : NamedFilter). x.0) columns) name ≡ false
none-named [] name e = refl
none-named (x ∷ xs) name e = by (bytes_eq name x.0) e (none-named xs name)
  where
    by : (b : Bool) → cond b (Some x.1) (lookup (bytes_eq name) xs) ≡ None
        → (lookup (bytes_eq name) xs ≡ None → is_among (map (λ (y : NamedFilter). y.0) xs) name ≡ false)
        → (b || is_among (map (λ (y : NamedFilter). y.0) xs) name) ≡ false
    by true h later = absurd cc
    by false h later = later h

-- where none was found, none has the name
pub name-missing : (columns : List NamedFilter) (name : List ℕ) (c : ℕ) → IsGapAt columns name c
    → is_among (map (λ (x : NamedFilter). x.0) columns) name ≡ false
name-missing columns name c gap = none-named columns name gap.missing
