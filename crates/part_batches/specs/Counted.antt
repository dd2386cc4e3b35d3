-- Numbers of rows that follow each other without a gap.
use Rattle.std.specs.Prelude.{ℕ, ◌+◌, ◌==◌, ◌&&◌, Bool, List, [], ◌∷◌, if◌then◌else◌}

-- After so many places of this batch, the number is that of the next place, or the first one of the next batch.
abbrev pub goes_on : ℕ → ℕ → ℕ × ℕ → Bool
goes_on batch places number =
    if number.1 == 0 then number.0 == batch + 1 else (number.0 == batch) && (number.1 == places)

-- Each number goes on after the one before, and the last one is of the batch `front`.
abbrev pub are_counted : ℕ → ℕ → ℕ → List (ℕ × ℕ) → Bool
are_counted front batch places [] = batch == front
are_counted front batch places (number ∷ numbers) =
    goes_on batch places number && are_counted front number.0 (number.1 + 1) numbers
