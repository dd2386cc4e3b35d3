-- Rows beside their days, and where a day ends.
use Rattle.std.specs.Prelude.{◌≡◌, ℕ, ◌<◌, ◌≤◌, ◌==◌, Bool, List, [], ◌∷◌, length, take, drop}
use Rattle.std.specs.List.{AllByRecursion, flat_map}
use Rattle.log_model.specs.History.{Numbered}
use Rattle.day_model.specs.Days.{DayRows, LieInDay, day_of}

-- the rows beside all days
abbrev pub all_rows : List DayRows → List Numbered
all_rows picks = flat_map (λ (rows : DayRows). rows.1) picks

abbrev pub is_day : ℕ → DayRows → Bool
is_day day rows = rows.0 == day

-- the day of the first row
abbrev pub first_day : List Numbered → ℕ
first_day [] = 0
first_day (numbered ∷ rows) = day_of numbered

-- All rows are of the day of the first one.
abbrev pub IsOfOneDay : List Numbered → Type 0
IsOfOneDay rows = LieInDay (first_day rows) rows

-- the day that comes first
abbrev pub next_day : List DayRows → ℕ
next_day [] = 0
next_day (rows ∷ picks) = rows.0

-- The first of these days is another one.
abbrev pub IsOther : ℕ → List DayRows → Type 0
IsOther day [] = Unit {0}
IsOther day (rows ∷ picks) = rows.0 ≡ day → ⊥

-- So many of the first days are the same, and the next one is another.
pub record EndsDay (picks : List DayRows) (count : ℕ) : Type 0 where
  pub some : 0 < count
  pub there : count ≤ length picks
  pub same : AllByRecursion (λ (rows : DayRows). rows.0 ≡ next_day picks) (take count picks)
  pub other : IsOther (next_day picks) (drop count picks)
