-- Values of a column that are lent.
use Rattle.std.specs.Prelude.{◌≡◌, ℕ, true, nat_lt, List, length, map, replicate}
use Rattle.std.specs.Fmt.{signed_decimal}
use Rattle.std.specs.List.{list_all}
use Rattle.block_model.specs.Distinct.{text_at}
use Rattle.block_column.specs.declared.lent.ColumnValues.{ColumnValues}
use Rattle.block_column.specs.declared.lent.ColumnValues.TheVariants as lent

-- the value of each row
abbrev pub values_lent : ColumnValues → List (List ℕ)
values_lent (lent.Constant text rows) = replicate rows text.now
values_lent (lent.Integers ints) = map signed_decimal ints.now
values_lent (lent.Dictionary texts codes) = map (text_at texts.now) codes.now
values_lent (lent.Plain texts) = texts.now

-- Each code stands for a text.
abbrev pub AreCodes : ColumnValues → Type 0
AreCodes (lent.Constant text rows) = Unit {0}
AreCodes (lent.Integers ints) = Unit {0}
AreCodes (lent.Dictionary texts codes) = list_all (λ code. nat_lt code (length texts.now)) codes.now ≡ true
AreCodes (lent.Plain texts) = Unit {0}
