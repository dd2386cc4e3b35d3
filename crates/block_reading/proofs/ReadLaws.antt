-- The items of a block are read as its parts are.
use Rattle.std.proofs.Common.{◌≡◌, List, Ok, refl, ℕ, ◌∙◌}
use Rattle.block_format.specs.Found.{Found}
use Rattle.block_format.specs.Parts.{parts}
use Rattle.block_format.specs.Reading.{block, rows_said}
use Rattle.byte_format.specs.Format.{front, value, ◌>>=◌}
use Rattle.byte_format.specs.Gives.{Stops}
use Rattle.byte_format.specs.declared.Stop.{Stop}
use Rattle.byte_format.specs.declared.Stop.TheVariants as stops
use Rattle.byte_format.proofs.Readings.{front-followed}

front-block : (bytes : List ℕ) → front block bytes ≡ front parts bytes >>= λ x. front (value (rows_said x.0)) x.1
unfolding block
front-block bytes = front-followed parts (λ found. value (rows_said found)) bytes

pub block-read : (bytes rest : List ℕ) (found : Found) → front parts bytes ≡ Ok (found, rest)
    → front block bytes ≡ Ok (rows_said found, rest)
block-read bytes rest found e = front-block bytes ∙ rw e refl

pub block-stops : (stop : Stop) (bytes : List ℕ) → Stops stop (front parts bytes) → Stops stop (front block bytes)
block-stops stops.Memory bytes s = tt
block-stops (stops.Left left) bytes s = front-block bytes ∙ rw s refl
