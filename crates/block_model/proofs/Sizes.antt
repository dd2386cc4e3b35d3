-- Values are at most as large as the row that they are in.
use Rattle.std.proofs.Common.{◌≡◌, ℕ, ◌+◌, ◌≤◌, Bool, true, false, cond, List, [], ◌∷◌, length, Some, arith}
use Rattle.std.specs.Prelude.{bytes_eq, unwrap_or}
use Rattle.std.specs.Map.{lookup}
use Rattle.std.proofs.lemmas.List.Sums.{sum_by-cons}
use Rattle.log_model.specs.Field.{Field, field_value, weight}

pub value-size : (fields : List Field) (name : List ℕ) → length (field_value fields name) ≤ weight fields
value-size [] name = omega arith
value-size (f ∷ fs) name = by (bytes_eq name f.0) (value-size fs name)
  where
    all : weight (f ∷ fs) ≡ length f.0 + length f.1 + weight fs
    all = sum_by-cons (λ (field : Field). length field.0 + length field.1) f fs

    by : (b : Bool) → length (field_value fs name) ≤ weight fs
        → length (unwrap_or (cond b (Some f.1) (lookup (bytes_eq name) fs)) []) ≤ weight (f ∷ fs)
    by true h = omega (arith, all)
    by false h = omega (arith, all, h)
