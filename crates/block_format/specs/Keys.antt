-- The keys of rows as bytes, and as a format.
use Rattle.std.specs.Prelude.{ℕ, ℤ, List, [], ◌∷◌, ◌++◌, Result}
use Rattle.std.specs.Int.{w32, w64, to_le_bytes}
use Rattle.std.specs.List.{flat_map}
use Rattle.byte_format.specs.Format.{Format, value, followed, many, front, ◌>>=◌}
use Rattle.byte_format.specs.Items.{number, signed}
use Rattle.byte_format.specs.Written.{signed_bytes}
use Rattle.block_model.specs.declared.keys.Key.{Key}

abbrev pub time_bytes : Key → List ℕ
time_bytes key = signed_bytes key.time

abbrev pub batch_bytes : Key → List ℕ
batch_bytes key = to_le_bytes w64 key.batch

abbrev pub place_bytes : Key → List ℕ
place_bytes key = to_le_bytes w32 key.place

-- all times, all numbers of batches, and all places
unfoldable pub keys_bytes : List Key → List ℕ
keys_bytes keys = flat_map time_bytes keys ++ (flat_map batch_bytes keys ++ flat_map place_bytes keys)

abbrev pub zipped : List ℤ → List ℕ → List ℕ → List Key
zipped [] batches places = []
zipped (time ∷ times) [] places = []
zipped (time ∷ times) (batch ∷ batches) [] = []
zipped (time ∷ times) (batch ∷ batches) (place ∷ places) =
    record { time = time; batch = batch; place = place } ∷ zipped times batches places

unfoldable pub keys : ℕ → Format (List Key)
keys rows =
    followed (many rows signed) (λ times. followed (many rows (number w64)) (λ batches.
    followed (many rows (number w32)) (λ places. value (zipped times batches places))))

-- the same, one step after another
unfoldable pub keys_steps : ℕ → List ℕ → Result (List Key × List ℕ) ℕ
keys_steps rows bytes = do
  times ← front (many rows signed) bytes
  batches ← front (many rows (number w64)) times.1
  places ← front (many rows (number w32)) batches.1
  front (value (zipped times.0 batches.0 places.0)) places.1
