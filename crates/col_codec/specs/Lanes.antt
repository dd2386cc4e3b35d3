-- How a column of integers is held: the least of them, and for each its difference from that one.
use Rattle.std.specs.Prelude.{◌≡◌, ℕ, ℤ, pos, ◌+ℤ◌, true, List, map}
use Rattle.std.specs.List.{list_all}
use Rattle.col_codec.specs.Ints.{is_i64, least_of, widest, width_for}
use Rattle.col_codec.specs.declared.lanes.Lanes.{Lanes}
use Rattle.col_codec.specs.declared.lanes.Lanes.TheVariants as lanes
use Rattle.col_codec.specs.declared.width.IntWidth.{IntWidth}
use Rattle.col_codec.specs.declared.width.IntWidth.TheVariants.{One, Two, Four, Eight}

abbrev pub numbers_in : Lanes → List ℕ
numbers_in (lanes.One ns) = ns.items
numbers_in (lanes.Two ns) = ns.items
numbers_in (lanes.Four ns) = ns.items
numbers_in (lanes.Eight ns) = ns.items

abbrev pub width_of : Lanes → IntWidth
width_of (lanes.One ns) = One
width_of (lanes.Two ns) = Two
width_of (lanes.Four ns) = Four
width_of (lanes.Eight ns) = Eight

-- the integer with this difference from the least
abbrev pub sum_of : ℤ → ℕ → ℤ
sum_of least n = least +ℤ pos n

abbrev pub ints_in : ℤ → Lanes → List ℤ
ints_in least held = map (sum_of least) (numbers_in held)

-- The integers have 64 bits. They are held as they are written: above the least of them, in the smallest width.
pub record IsCanonical (lowest : ℤ) (held : Lanes) : Type 0 where
  pub fits : list_all is_i64 (ints_in lowest held) ≡ true
  pub least : lowest ≡ least_of (ints_in lowest held)
  pub width : width_of held ≡ width_for (widest lowest (ints_in lowest held))
