-- What expressions are worth.
use Rattle.std.specs.Prelude.{ℕ, List, ℤ, Option, Result, Ok, Err}
use Rattle.row_pipes.specs.declared.math.Overflow.{Overflow}

-- the number, or an overflow in the field of this name
abbrev pub for_name : List ℕ → Result (Option ℤ) Overflow → Result (Option ℤ) (List ℕ)
for_name name (Ok number) = Ok number
for_name name (Err overflow) = Err name
