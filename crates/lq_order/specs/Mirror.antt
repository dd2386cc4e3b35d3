-- Places that are in the order of what stands there.
use Rattle.std.specs.Prelude.{◌≡◌, ℕ, ◌<◌, List, length, slice_index_or}
use Rattle.std.specs.declared.cmp.Ordering.{Ordering}

-- The places of a list are compared as its items are.
pub record Mirrors {A : Type 0} (places : ℕ → ℕ → Ordering) (order : A → A → Ordering) (items : List A) : Type 0 where
  pub same : (i j : ℕ) (d : A) → i < length items → j < length items
      → places i j ≡ order (slice_index_or items i d) (slice_index_or items j d)
