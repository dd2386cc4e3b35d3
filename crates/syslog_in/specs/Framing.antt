-- Messages in a stream of bytes: each with its length before it, or ended by a line feed (RFC 6587, section 3.4).
use Rattle.std.specs.Prelude.{◌≡◌, ℕ, ◌<◌, ◌≤◌, ◌-◌, Bool, false, not, ◌&&◌, ◌==◌, nat_le, List, [], ◌∷◌, ◌++◌, length}
use Rattle.std.specs.Prelude.{take}
use Rattle.std.specs.Prelude.{slice_index, flat_map, IsTrue, IsFalse, if◌then◌else◌}
use Rattle.std.specs.Char.{is_ascii_digit}
use Rattle.std.specs.List.{list_all, AllByRecursion}
use Rattle.std.specs.Str.Parse.{digits_value}

-- the most bytes of a message, and of a line
abbrev pub frame_limit : ℕ
frame_limit = 65_536

-- ---- frames

-- A message after the digits of its length and a blank, or a line that ends at a line feed.
pub data Frame : Type 0 where
  counted : List ℕ → List ℕ → Frame
  ended : List ℕ → Frame

-- 1 to 9: a length begins so, and a line does not
abbrev pub begins_length : List ℕ → Bool
begins_length [] = false
begins_length (byte ∷ bytes) = nat_le 49 byte && nat_le byte 57

-- NONZERO-DIGIT *DIGIT
pub record AreLengthDigits (digits : List ℕ) : Type 0 where
  pub first : IsTrue (begins_length digits)
  pub each : IsTrue (list_all is_ascii_digit digits)

abbrev pub length_of : List ℕ → ℕ
length_of digits = digits_value 10 digits

abbrev pub is_no_feed : ℕ → Bool
is_no_feed byte = not (byte == 10)

-- bytes without a line feed that are not a length
pub record IsLine (line : List ℕ) : Type 0 where
  pub first : IsFalse (begins_length line)
  pub each : IsTrue (list_all is_no_feed line)

pub record IsCounted (digits message : List ℕ) : Type 0 where
  pub are_digits : AreLengthDigits digits
  pub value : length_of digits ≡ length message
  pub few : length message ≤ frame_limit

pub record IsEnded (line : List ℕ) : Type 0 where
  pub is_line : IsLine line
  pub few : length line ≤ frame_limit

abbrev pub IsFrame : Frame → Type 0
IsFrame (counted digits message) = IsCounted digits message
IsFrame (ended line) = IsEnded line

-- how a frame is spelled
abbrev pub source : Frame → List ℕ
source (counted digits message) = digits ++ 32 ∷ message
source (ended line) = line ++ 10 ∷ []

-- a carriage return right before the line feed is not part of the message
abbrev pub without_return : List ℕ → List ℕ
without_return line = if slice_index line (length line - 1) == 13 then take (length line - 1) line else line

abbrev pub message_of : Frame → List ℕ
message_of (counted digits message) = message
message_of (ended line) = without_return line

-- an empty message is skipped
abbrev pub unless_empty : List ℕ → List (List ℕ)
unless_empty [] = []
unless_empty (byte ∷ bytes) = (byte ∷ bytes) ∷ []

abbrev pub messages_of : List Frame → List (List ℕ)
messages_of frames = flat_map (λ frame. unless_empty (message_of frame)) frames

-- ---- a stream

-- The bytes are whole frames with these messages, and then a rest.
pub record BeginsWithFrames (bytes : List ℕ) (messages : List (List ℕ)) (rest : List ℕ) : Type 0 where
  pub frames : List Frame
  pub each : AllByRecursion IsFrame frames
  pub spelled : bytes ≡ flat_map source frames ++ rest
  pub messages_are : messages ≡ messages_of frames

-- no whole frame stands at the start
abbrev pub BeginsWithNone : List ℕ → Type 0
BeginsWithNone rest = (frame : Frame) (more : List ℕ) → IsFrame frame → rest ≡ source frame ++ more → ⊥

-- The bytes are whole frames with these messages, and then a rest that begins with no whole frame.
pub record AreFrames (bytes : List ℕ) (messages : List (List ℕ)) (rest : List ℕ) : Type 0 where
  pub frames : BeginsWithFrames bytes messages rest
  pub none : BeginsWithNone rest

-- ---- why a rest begins with no whole frame

-- More bytes can make it one.
pub record CanGoOn (rest : List ℕ) : Type 0 where
  pub frame : Frame
  pub is_frame : IsFrame frame
  pub more : List ℕ
  pub some : 0 < length more
  pub spelled : rest ++ more ≡ source frame

-- Its length goes on, at this place, with a byte that is neither a digit nor a blank.
pub record HasBadLength (rest : List ℕ) (place : ℕ) : Type 0 where
  pub digits : List ℕ
  pub byte : ℕ
  pub more : List ℕ
  pub are_digits : AreLengthDigits digits
  pub few : length_of digits ≤ frame_limit
  pub no_digit : IsFalse (is_ascii_digit byte)
  pub no_blank : IsFalse (byte == 32)
  pub spelled : rest ≡ digits ++ byte ∷ more
  pub place_is : place ≡ length digits

-- Its length, as far as it is spelled, or the bytes of its line, are more than a frame may have.
pub data IsTooLong (rest : List ℕ) : Type 0 where
  long_length :
      (digits more : List ℕ) → AreLengthDigits digits → frame_limit < length_of digits → rest ≡ digits ++ more
      → IsTooLong rest
  long_line :
      (line more : List ℕ) → IsLine line → frame_limit < length line → rest ≡ line ++ more → IsTooLong rest

-- Of a rest only one of these holds: more bytes can make it a frame, its length is wrong at one place, or it is too
-- long.
pub record AreApart (rest : List ℕ) : Type 0 where
  pub bad_length : CanGoOn rest → (place : ℕ) → HasBadLength rest place → ⊥
  pub too_long : CanGoOn rest → IsTooLong rest → ⊥
  pub not_both : (place : ℕ) → HasBadLength rest place → IsTooLong rest → ⊥
  pub one_place : (place other : ℕ) → HasBadLength rest place → HasBadLength rest other → place ≡ other
