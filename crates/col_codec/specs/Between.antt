-- Integers between two bounds.
use Rattle.std.specs.Prelude.{ℕ, ℤ, Bool, ◌&&◌, int_le, int_lt, nat_le, if◌then◌else◌}
use Rattle.col_codec.specs.Ints.{gap}

-- at least the first and at most the second
abbrev pub is_between : ℤ → ℤ → ℤ → Bool
is_between low high int = int_le low int && int_le int high

abbrev pub is_number_between : ℕ → ℕ → ℕ → Bool
is_number_between low high n = nat_le low n && nat_le n high

-- how far an integer lies above the least, and 0 if it lies below
abbrev pub above : ℤ → ℤ → ℕ
above least int = if int_lt int least then 0 else gap least int
