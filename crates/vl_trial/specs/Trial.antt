-- The rows of a trial. A seed and a number of rows determine them.
use Rattle.std.specs.Prelude.{ℕ, zero, suc, ◌+◌, ◌*◌, ◌/◌, ◌%◌, ◌^◌, ◌==◌, List, [], ◌∷◌, ◌++◌, length, map, codes}
use Rattle.std.specs.Prelude.{decimal, if◌then◌else◌}
use Rattle.std.specs.Fork.{slice_chunk}
use Rattle.std.specs.List.{range_with_len}
use Rattle.log_model.specs.Field.{Field}
use Rattle.log_model.specs.Row.{Row, Batch}

-- the next state, by a linear congruence
unfoldable pub next_state : ℕ → ℕ
next_state state = (state * 6364136223846793005 + 1442695040888963407) % 2 ^ 64

-- the state after this many steps
unfoldable pub state_at : ℕ → ℕ → ℕ
state_at state zero = state
state_at state (suc steps) = next_state (state_at state steps)

-- what is drawn from a state: its upper half
abbrev pub drawn : ℕ → ℕ
drawn state = state / 2 ^ 32

abbrev pub level_of : ℕ → List ℕ
level_of draw =
    if draw % 4 == 0 then codes "debug"
    else (if draw % 4 == 1 then codes "info"
    else (if draw % 4 == 2 then codes "warn"
    else codes "error"))

abbrev pub app_of : ℕ → List ℕ
app_of draw =
    if draw / 4 % 3 == 0 then codes "api"
    else (if draw / 4 % 3 == 1 then codes "db"
    else codes "web")

-- how long the request took, in milliseconds
abbrev pub millis_of : ℕ → ℕ
millis_of draw = draw / 16 % 1000

abbrev pub message_of : ℕ → ℕ → List ℕ
message_of number draw = codes "request " ++ (decimal number ++ (codes " " ++ level_of draw))

-- the fields of a row, in byte order of their names
unfoldable pub fields_of : ℕ → ℕ → List Field
fields_of number draw =
    (codes "_msg", message_of number draw)
    ∷ (codes "app", app_of draw)
    ∷ (codes "level", level_of draw)
    ∷ (codes "ms", decimal (millis_of draw))
    ∷ []

-- the time of a row, in nanoseconds since 1970: the first at the start of May 2024, then one each second
abbrev pub moment_of : ℕ → ℕ
moment_of number = (1714521600 + number) * 1000000000

-- the row of this number and this draw, whose label is its app
unfoldable pub row_of : ℕ → ℕ → Row
row_of number draw = record {
  moment = moment_of number;
  labels = (codes "app", app_of draw) ∷ [];
  fields = fields_of number draw;
}

-- the row with this number, from 0 on
unfoldable pub trial_row : ℕ → ℕ → Row
trial_row seed number = row_of number (drawn (state_at seed (suc number)))

unfoldable pub trial_rows : ℕ → ℕ → List Row
trial_rows seed rows = map (trial_row seed) (range_with_len 0 rows)

-- these rows in pieces of a thousand, of which the last may have fewer
unfoldable pub in_thousands : List Row → List Batch
in_thousands rows = map (slice_chunk rows 1000) (range_with_len 0 ((length rows + 999) / 1000))

-- the batches of the rows
unfoldable pub trial_batches : ℕ → ℕ → List Batch
trial_batches seed rows = in_thousands (trial_rows seed rows)
