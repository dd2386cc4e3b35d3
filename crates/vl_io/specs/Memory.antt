-- The forms of the outside in memory, as callers see them. Calls are numbered from 0. A count ends at 2^64 - 1.
use Rattle.std.specs.Prelude.{ℕ, zero, suc, ◌+◌, ◌-◌, ◌^◌, min, ℤ, pos, unsigned_abs, List, [], ◌∷◌, ◌++◌, length}
use Rattle.std.specs.Prelude.{slice_index_or, nat_lt, Option, Some, None, if◌then◌else◌}

-- one more, as far as a count goes
abbrev pub counted : ℕ → ℕ
counted n = min (n + 1) (2 ^ 64 - 1)

pub record SourceState : Type 0 where
  -- the bytes that are left
  pub left : List ℕ
  -- how many bytes each read gives at most
  pub pieces : List ℕ
  -- the numbers of the calls that fail
  pub failing : List ℕ
  pub calls : ℕ
  pub faults : ℕ

-- how many bytes a read into this much room gives: past the list of pieces only the room limits it
abbrev pub read_count : SourceState → ℕ → ℕ
read_count source room = min (min (slice_index_or source.pieces source.calls room) room) (length source.left)

pub record SinkState : Type 0 where
  pub written : List ℕ
  -- the numbers of the calls that fail
  pub failing : List ℕ
  pub calls : ℕ
  pub faults : ℕ

pub record ClockState : Type 0 where
  -- the moments to give, in turn
  pub moments : List ℤ
  pub calls : ℕ

-- the moment that this call gives: past the end of the list the last
abbrev pub moment_at : List ℤ → ℕ → ℤ
moment_at moments call = slice_index_or moments (min call (length moments - 1)) (pos 0)

-- the moments that this many calls gave
abbrev pub moments_of : List ℤ → ℕ → List ℕ
moments_of moments zero = []
moments_of moments (suc calls) = moments_of moments calls ++ unsigned_abs (moment_at moments calls) ∷ []

-- what the clock tells, as long as it can count its calls
abbrev pub moments_told : ClockState → Option (List ℕ)
moments_told clock = if nat_lt clock.calls (2 ^ 64 - 1) then Some (moments_of clock.moments clock.calls) else None

pub record DoorsState (V : Type 0) : Type 0 where
  -- the visits to give, in turn
  pub visits : List V
  -- the numbers of the calls that fail
  pub failing : List ℕ
  pub calls : ℕ
  pub faults : ℕ

-- how many visits are left
abbrev pub visits_left : {V : Type 0} → DoorsState V → ℕ
visits_left doors = length doors.visits
