-- What a run says of time. A duration or a bound is read from its text only.
use Rattle.std.specs.Prelude.{◌≡◌, ℕ, zero, suc, ◌+◌, ◌^◌, ◌<◌, ◌≤◌, nat_lt, Bool, true, false, ◌&&◌, [], ◌∷◌}
use Rattle.std.specs.Prelude.{length, ℤ, pos, ◌+ℤ◌, ◌-ℤ◌, int_le, int_lt, Option, Some, None, Result, Ok, Err}
use Rattle.std.specs.Prelude.{if◌then◌else◌}
use Rattle.time_text.specs.Reading.{◌>>=◌}
use Rattle.time_text.specs.Duration.{SpellsDuration}
use Rattle.time_text.specs.DurationReading.{part_at}
use Rattle.time_text.specs.Bound.{SpellsBound, AreInRange}
use Rattle.time_text.specs.BoundReading.{bound_at}
use Rattle.time_text.specs.declared.fault.DurationFault.{DurationFault}
use Rattle.time_text.specs.declared.fault.DurationFault.TheVariants.{NotADuration, OutOfRange}
use Rattle.lq_ast.specs.Condition.{Condition}
use Rattle.lq_ast.specs.Condition as is
use Rattle.lq_grammar.specs.Values.{Reason, bad_time, bad_duration, Bytes}

-- ---- durations

-- What a text says of a duration: its nanoseconds, that it has not the form of one, or that it is too long.
abbrev pub SaysDuration : Bytes → Result ℤ DurationFault → Type 0
SaysDuration text (Ok span) = (nanos : ℕ) × (span ≡ pos nanos) × SpellsDuration text nanos × (nanos < 2 ^ 63)
SaysDuration text (Err NotADuration) = (nanos : ℕ) → SpellsDuration text nanos → ⊥
SaysDuration text (Err OutOfRange) = (nanos : ℕ) × SpellsDuration text nanos × (2 ^ 63 ≤ nanos)

-- the sum, with what came before, of the parts that a text is; there are at most this many
abbrev pub sum_from : ℕ → ℕ → Bytes → Option ℕ
sum_from most sum [] = Some sum
sum_from zero sum (byte ∷ bytes) = None
sum_from (suc most) sum (byte ∷ bytes) =
    part_at (byte ∷ bytes) >>= λ part. sum_from most (sum + part.0) part.1

abbrev pub span_of : Option ℕ → Result ℤ DurationFault
span_of None = Err NotADuration
span_of (Some nanos) = if nat_lt nanos (2 ^ 63) then Ok (pos nanos) else Err OutOfRange

-- the one answer of which `SaysDuration` holds
unfoldable pub duration_of : Bytes → Result ℤ DurationFault
duration_of [] = Err NotADuration
duration_of (byte ∷ bytes) = span_of (sum_from (length (byte ∷ bytes)) 0 (byte ∷ bytes))

-- ---- bounds

-- The first and the last moment of what a bound names, or none where no bound in range stands.
abbrev pub SaysBound : Bytes → Option (ℤ × ℤ) → Type 0
SaysBound text (Some ends) = SpellsBound text ends.0 ends.1 × AreInRange ends.0 ends.1
SaysBound text None = (first last : ℤ) → SpellsBound text first last → AreInRange first last → ⊥

abbrev pub is_kept : ℤ → Bool
is_kept moment = int_le (pos 0) moment && int_lt moment (pos (2 ^ 63))

abbrev pub kept : Option (ℤ × ℤ) → Option (ℤ × ℤ)
kept None = None
kept (Some ends) = if is_kept ends.0 && is_kept ends.1 then Some ends else None

-- the one answer of which `SaysBound` holds
unfoldable pub bound_of : Bytes → Option (ℤ × ℤ)
bound_of text = kept (bound_at text)

-- ---- times

abbrev pub bound_from : Option (ℤ × ℤ) → Result (ℤ × ℤ) Reason
bound_from None = Err bad_time
bound_from (Some span) = Ok span

abbrev pub within : ℤ × ℤ → Condition
within span = is.times span.0 span.1

abbrev pub in_bound : Result (ℤ × ℤ) Reason → Result Condition Reason
in_bound (Ok span) = Ok (within span)
in_bound (Err reason) = Err reason

-- the run of a filter: a duration up to now, or a bound
abbrev pub alone : Result ℤ DurationFault → Bytes → Result Condition Reason
alone (Ok span) text = Ok (is.last span)
alone (Err OutOfRange) text = Err bad_duration
alone (Err NotADuration) text = in_bound (bound_from (bound_of text))

abbrev pub run_value : Bytes → Result Condition Reason
run_value text = alone (duration_of text) text

-- a run inside brackets, which may be no duration
abbrev pub bracketed : Result ℤ DurationFault → Bytes → Result (ℤ × ℤ) Reason
bracketed (Ok span) text = Err bad_duration
bracketed (Err OutOfRange) text = Err bad_duration
bracketed (Err NotADuration) text = bound_from (bound_of text)

abbrev pub bound_value : Bytes → Result (ℤ × ℤ) Reason
bound_value text = bracketed (duration_of text) text

-- An included end covers the whole interval that its bound names, and an excluded end leaves it out.
abbrev pub start_of : Bool → ℤ × ℤ → ℤ
start_of true span = span.0
start_of false span = span.1 +ℤ pos 1

abbrev pub stop_of : Bool → ℤ × ℤ → ℤ
stop_of true span = span.1
stop_of false span = span.0 -ℤ pos 1

abbrev pub in_interval : Bool → ℤ × ℤ → ℤ × ℤ → Bool → Condition
in_interval from_included from to to_included = is.times (start_of from_included from) (stop_of to_included to)
