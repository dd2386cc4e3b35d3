-- Reading a source in groups of lines.
use Rattle.std.specs.Prelude.{◌≡◌, ◌⊎◌, ℕ, ◌+◌, ◌<◌, ◌≤◌, Bool, true, ◌==◌, List, [], ◌∷◌, ◌++◌, length, take}
use Rattle.std.specs.Prelude.{count_by, Option, MatchOption}
use Rattle.vl_io.specs.Bytes.{Consumes, IsAtEnd}

abbrev pub is_feed : ℕ → Bool
is_feed byte = byte == 10

-- this many lines, each with its line feed
pub record AreLines (count : ℕ) (bytes : List ℕ) : Type 0 where
  pub feeds : count_by is_feed bytes ≡ count
  pub front : List ℕ
  pub ends : bytes ≡ front ++ 10 ∷ []

-- fewer lines end in the bytes than these
abbrev pub AreFewer : ℕ → List ℕ → Type 0
AreFewer lines bytes = count_by is_feed bytes < lines

-- how many bytes one read gives at most
abbrev pub piece_len : ℕ
piece_len = 65_536

-- Where this many lines end. After that lie no more bytes than these. Without an answer there are fewer lines, and the
-- source has no more.
abbrev pub IsLinesEnd : ℕ → ℕ → List ℕ → Option (List ℕ) → Option ℕ → Type 0
IsLinesEnd lines most bytes left place =
    MatchOption place (AreFewer lines bytes × IsAtEnd left)
    (λ end. (end ≤ length bytes) × (length bytes ≤ end + most) × AreLines lines (take end bytes))

-- what a reader of groups has
pub record Reading : Type 0 where
  -- of a group
  pub lines : ℕ
  -- of all bytes
  pub limit : ℕ
  -- how many bytes came before the group
  pub passed : ℕ
  pub group : List ℕ
  -- what was read after the group
  pub ahead : List ℕ
  -- whether the source ended
  pub ended : Bool

-- this many bytes the source gave
abbrev pub bytes_read : Reading → ℕ
bytes_read reading = reading.passed + length reading.group + length reading.ahead

-- the next group, after a piece was read
pub record Advances (old new : Reading) (piece : List ℕ) : Type 0 where
  pub lines : new.lines ≡ old.lines
  pub limit : new.limit ≡ old.limit
  pub passed : new.passed ≡ old.passed + length old.group
  pub joined : new.group ++ new.ahead ≡ old.ahead ++ piece
  pub within : bytes_read new ≤ new.limit

-- The group has all its lines, or those that are left, where they are fewer.
abbrev pub IsGroup : Reading → Type 0
IsGroup reading =
    AreLines reading.lines reading.group
    ⊎ ((0 < length reading.group) × AreFewer reading.lines reading.group
    × (reading.ahead ≡ []) × (reading.ended ≡ true))

-- A piece was read after the group, but not all lines of another one.
pub record FallsShort (old : Reading) (left_old left_new : Option (List ℕ)) : Type 0 where
  pub piece : List ℕ
  pub consumed : Consumes left_old left_new piece
  pub fewer : AreFewer old.lines (old.ahead ++ piece)

-- All that may be read was read after the group, but not all lines of another one, and the source gave one byte more.
pub record IsTooLong (old : Reading) (left_old left_new : Option (List ℕ)) : Type 0 where
  pub piece : List ℕ
  pub more : List ℕ
  pub consumed : Consumes left_old left_new (piece ++ more)
  pub all : bytes_read old + length piece ≡ old.limit
  pub one : length more ≡ 1
  pub fewer : AreFewer old.lines (old.ahead ++ piece)

-- nothing is left
pub record IsOver (reading : Reading) : Type 0 where
  pub group : reading.group ≡ []
  pub ahead : reading.ahead ≡ []
  pub ended : reading.ended ≡ true
