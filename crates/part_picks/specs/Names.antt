-- Names that rows may have.
use Rattle.std.specs.Prelude.{◌≡◌, ℕ, true, List, bytes_eq}
use Rattle.std.specs.List.{AllByRecursion, list_any}
use Rattle.log_model.specs.Field.{Field}
use Rattle.log_model.specs.History.{Numbered}

abbrev pub AreListed : List Field → List (List ℕ) → Type 0
AreListed fields names = AllByRecursion (λ (field : Field). list_any (bytes_eq field.0) names ≡ true) fields

-- Each field of the rows has one of these names.
abbrev pub AreNamed : List (List ℕ) → List Numbered → Type 0
AreNamed names rows = AllByRecursion (λ (numbered : Numbered). AreListed numbered.row.fields names) rows
