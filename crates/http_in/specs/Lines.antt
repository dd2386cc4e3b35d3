-- Lines that are not empty, in a head or a section. An empty one has no bytes, or only a carriage return.
use Rattle.std.specs.Prelude.{◌≡◌, ◌⊎◌, ℕ, ◌+◌, ◌<◌, ◌≤◌, Bool, true, false, not, ◌&&◌, ◌||◌, ◌==◌, List, [], ◌∷◌, ◌++◌}
use Rattle.std.specs.Prelude.{get_or, length, take}
use Rattle.std.specs.Prelude.{if◌then◌else◌}
use Rattle.http_in.specs.Limits.{head_limit}
use Rattle.httparse.specs.Ascii.{carriage_return, line_feed}

-- after this byte a line has begun, where `begun` says so of the bytes before it
abbrev pub begins_line : Bool → ℕ → Bool
begins_line begun b = not (b == line_feed) && (begun || not (b == carriage_return))

-- how many lines the byte ends
abbrev pub ends_line : Bool → ℕ → ℕ
ends_line begun b = if (b == line_feed) && begun then 1 else 0

abbrev pub lines_from : Bool → List ℕ → ℕ
lines_from begun [] = 0
lines_from begun (b ∷ bytes) = ends_line begun b + lines_from (begins_line begun b) bytes

abbrev pub begun_after : Bool → List ℕ → Bool
begun_after begun [] = begun
begun_after begun (b ∷ bytes) = begun_after (begins_line begun b) bytes

-- how many lines end in the bytes that are not empty
abbrev pub lines_in : List ℕ → ℕ
lines_in bytes = lines_from false bytes

-- At this place a line feed ends a line, no more end before it than these, and with it more do.
pub record EndsLine (bytes : List ℕ) (lines at : ℕ) : Type 0 where
  pub inside : at < length bytes
  pub feed : get_or bytes at 0 ≡ line_feed
  pub few : lines_in (take at bytes) ≤ lines
  pub many : lines < lines_in (take at bytes ++ line_feed ∷ [])

-- A line feed follows the front, and with it more lines end than these.
pub record GoesOver (bytes front : List ℕ) (lines : ℕ) : Type 0 where
  pub later : List ℕ
  pub whole : bytes ≡ front ++ line_feed ∷ later
  pub many : lines < lines_in (front ++ line_feed ∷ [])

-- a front of the bytes within the limits, and whether it may not be longer
pub record IsFrontOf (bytes : List ℕ) (lines : ℕ) (front : List ℕ) (full : Bool) : Type 0 where
  pub later : List ℕ
  pub whole : bytes ≡ front ++ later
  pub short : length front ≤ head_limit
  pub few : lines_in front ≤ lines
  pub all : full ≡ false → (front ≡ bytes) × (length bytes < head_limit)
  pub limit : full ≡ true → GoesOver (take head_limit bytes) front lines
      ⊎ ((head_limit ≤ length bytes) × (front ≡ take head_limit bytes))
