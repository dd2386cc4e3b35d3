-- The keys of texts with the places where these stand, and numbers for them.
use Rattle.std.specs.Prelude.{ℕ, ◌&&◌, ◌-◌, List, [], nat_lt, not, slice_index_or, if◌then◌else◌}
use Rattle.std.specs.Ordering.{is_eq}
use Rattle.log_model.specs.Order.{Key, key_cmp, other}
use Rattle.lq_order.specs.declared.ranks.Keyed.{Keyed}

abbrev pub keyed_of : Keyed → ℕ × Key
keyed_of k = (k.at, k.key)

-- the entry at a place
abbrev pub entry : List (ℕ × Key) → ℕ → ℕ × Key
entry entries i = slice_index_or entries i (0, other [])

-- In a list in order, a key has the number of the one before it where it is equal to that, and else its place.
abbrev pub next_rank : List (ℕ × Key) → ℕ → ℕ → ℕ
next_rank entries i rank =
    if nat_lt 0 i && not (is_eq (key_cmp (entry entries (i - 1)).1 (entry entries i).1)) then i else rank
