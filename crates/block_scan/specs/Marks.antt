-- Marks of items, and which of them stay.
use Rattle.std.specs.Prelude.{Bool, ◌&&◌, List, map, zip}

-- The marks that stay, where the mark of an item stays if the item passes a test.
abbrev pub kept : {A : Type 0} → (A → Bool) → List A → List Bool → List Bool
kept {A} test items marks = map (λ (p : Bool × A). p.0 && test p.1) (zip marks items)
