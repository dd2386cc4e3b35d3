-- What stands at the start of bytes, read from left to right.
use Rattle.std.specs.Prelude.{◌≡◌, ℕ, ◌-◌, Bool, true, false, ◌==◌, nat_lt, List, [], ◌∷◌, ◌++◌, length, take, drop}
use Rattle.std.specs.Prelude.{Option, Some, None, if◌then◌else◌}
use Rattle.std.specs.Char.{is_ascii_digit}
use Rattle.std.specs.List.{prefix_len}
use Rattle.syslog_in.specs.Framing.{frame_limit, begins_length, length_of, is_no_feed, without_return}
use Rattle.syslog_in.specs.Framing.{BeginsWithFrames}
use Rattle.syslog_in.specs.Framer.{place}
use Rattle.syslog_in.specs.declared.scan.Scan.{Scan}
use Rattle.syslog_in.specs.declared.scan.Scan.TheVariants as scans
use Rattle.syslog_in.specs.declared.reach.Stop.{Stop}
use Rattle.syslog_in.specs.declared.reach.Why.{Why}
use Rattle.syslog_in.specs.declared.reach.Why.TheVariants as reasons

-- a frame with this message and what follows it, or why there is none
pub data Step : Type 0 where
  whole : List ℕ → List ℕ → Step
  short : Step
  bad_length : ℕ → Step
  too_long : Step

abbrev pub digits_len : List ℕ → ℕ
digits_len bytes = prefix_len is_ascii_digit bytes

abbrev pub number_at : List ℕ → ℕ
number_at bytes = length_of (take (digits_len bytes) bytes)

-- how many digits the bytes begin with, and what they say, where that is within the limit
unfoldable pub length_at : List ℕ → Option (ℕ × ℕ)
length_at bytes = if nat_lt frame_limit (number_at bytes) then None else Some (digits_len bytes, number_at bytes)

abbrev pub behind_blank : ℕ → List ℕ → Step
behind_blank value rest = if nat_lt (length rest) value then short else whole (take value rest) (drop value rest)

abbrev pub behind_digits : ℕ → ℕ → List ℕ → Step
behind_digits digits value [] = short
behind_digits digits value (byte ∷ rest) = if byte == 32 then behind_blank value rest else bad_length digits

abbrev pub with_length : List ℕ → Option (ℕ × ℕ) → Step
with_length bytes None = too_long
with_length bytes (Some (digits, value)) = behind_digits digits value (drop digits bytes)

unfoldable pub counted_at : List ℕ → Step
counted_at bytes = with_length bytes (length_at bytes)

abbrev pub line_len : List ℕ → ℕ
line_len bytes = prefix_len is_no_feed bytes

abbrev pub behind_line : List ℕ → List ℕ → Step
behind_line line [] = short
behind_line line (feed ∷ rest) = whole (without_return line) rest

unfoldable pub line_at : List ℕ → Step
line_at bytes =
    if nat_lt frame_limit (line_len bytes) then too_long
    else behind_line (take (line_len bytes) bytes) (drop (line_len bytes) bytes)

unfoldable pub step_at : List ℕ → Step
step_at [] = short
step_at (byte ∷ bytes) =
    if begins_length (byte ∷ bytes) then counted_at (byte ∷ bytes) else line_at (byte ∷ bytes)

-- ---- what the code answers

abbrev pub step_of : Scan → Step
step_of (scans.Whole message rest) = whole message.now rest.now
step_of scans.Short = short
step_of (scans.BadLength place) = bad_length place
step_of scans.TooLong = too_long

abbrev pub why_step : Why → Step
why_step reasons.Short = short
why_step (reasons.BadLength place) = bad_length place
why_step reasons.TooLong = too_long

abbrev pub is_short : Step → Bool
is_short short = true
is_short (whole message rest) = false
is_short (bad_length place) = false
is_short too_long = false

-- What was read of the bytes: their whole frames, whose messages were given, up to a rest, and why it stopped there.
pub record Reads (bytes : List ℕ) (old new : List (List ℕ)) (rest : List ℕ) (stop : Stop) : Type 0 where
  pub messages : List (List ℕ)
  pub frames : BeginsWithFrames bytes messages rest
  pub given : new ≡ old ++ messages
  pub why : step_at rest ≡ why_step stop.why
  pub passed : stop.passed ≡ place (length bytes - length rest)
