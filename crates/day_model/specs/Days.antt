-- The days of rows. Days are counted from 1970-01-01, each of 86,400 seconds (POSIX.1, "Seconds Since the Epoch").
use Rattle.std.specs.Prelude.{◌≡◌, ℕ, ◌/◌, ◌==◌, Bool, List}
use Rattle.std.specs.List.{AllByRecursion, filter}
use Rattle.log_model.specs.History.{Numbered}

-- the day of a moment in nanoseconds
abbrev pub day_of_moment : ℕ → ℕ
day_of_moment moment = moment / 86_400_000_000_000

abbrev pub day_of : Numbered → ℕ
day_of numbered = day_of_moment numbered.row.moment

abbrev pub is_of_day : ℕ → Numbered → Bool
is_of_day day numbered = day_of numbered == day

-- the rows of this day, in their order
abbrev pub rows_of_day : ℕ → List Numbered → List Numbered
rows_of_day day rows = filter (is_of_day day) rows

-- Each of the rows is of this day.
abbrev pub LieInDay : ℕ → List Numbered → Type 0
LieInDay day rows = AllByRecursion (λ numbered. day_of numbered ≡ day) rows

-- a day, and rows of it
abbrev pub DayRows : Type 0
DayRows = ℕ × List Numbered

-- Beside each day there are rows of it.
abbrev pub AreOfTheirDays : List DayRows → Type 0
AreOfTheirDays days = AllByRecursion (λ (rows : DayRows). LieInDay rows.0 rows.1) days
