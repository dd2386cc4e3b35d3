-- A framer, which is fed a stream piece by piece, and what it answers.
use Rattle.std.specs.Prelude.{◌≡◌, ℕ, ◌+◌, ◌-◌, ◌^◌, min, List, ◌++◌, length, Option, Some, None, codes, decimal}
use Rattle.std.specs.Prelude.{true, false}
use Rattle.syslog_in.specs.Framing.{AreFrames, CanGoOn, HasBadLength, IsTooLong, begins_length, unless_empty}
use Rattle.syslog_in.specs.declared.fault.FrameFault.{FrameFault}
use Rattle.syslog_in.specs.declared.fault.FrameFault.TheVariants.{BadLength, TooLong, Cut, Ended, Memory}
use Rattle.syslog_in.specs.declared.framer.StreamEnd.{StreamEnd}

-- Where the frame begins that is unfinished, what it has so far, and how the stream ended, if it did: the number of a
-- fault and its place, or 0 and the number of all bytes.
pub record Framing : Type 0 where
  pub start : ℕ
  pub rest : List ℕ
  pub end : Option (ℕ × ℕ)

abbrev pub end_of : Option StreamEnd → Option (ℕ × ℕ)
end_of None = None
end_of (Some end) = Some (end.first, end.at)

-- A place that is beyond the greatest number is given as that number.
abbrev pub place : ℕ → ℕ
place n = min n (2 ^ 64 - 1)

-- The framer was fed these bytes in all, and can be fed more.
pub record HasTaken (framer : Framing) (fed : List ℕ) : Type 0 where
  pub messages : List (List ℕ)
  pub frames : AreFrames fed messages framer.rest
  pub goes_on : CanGoOn framer.rest
  pub start : framer.start ≡ place (length fed - length framer.rest)
  pub running : framer.end ≡ None

-- To the messages of the bytes that were fed before, a piece adds those that it completes. A rest is left of all bytes.
pub record Completes (fed piece : List ℕ) (old new : List (List ℕ)) (rest : List ℕ) : Type 0 where
  pub before : List (List ℕ)
  pub more : List (List ℕ)
  pub left : List ℕ
  pub is_before : AreFrames fed before left
  pub is_after : AreFrames (fed ++ piece) (before ++ more) rest
  pub given : new ≡ old ++ more

-- the place of a byte that stands so far after the start of the rest
abbrev pub place_in : List ℕ → List ℕ → ℕ → ℕ
place_in bytes rest behind = place (length bytes - length rest + behind)

-- What a fault says of the bytes that were fed before and the piece.
abbrev pub IsFeedFault : FrameFault → List ℕ → List ℕ → List (List ℕ) → List (List ℕ) → Type 0
IsFeedFault (BadLength at) fed piece old new =
    (rest : List ℕ) × (behind : ℕ) × Completes fed piece old new rest × HasBadLength rest behind
    × (at ≡ place_in (fed ++ piece) rest behind)
IsFeedFault (TooLong at) fed piece old new =
    (rest : List ℕ) × Completes fed piece old new rest × IsTooLong rest × (at ≡ place_in (fed ++ piece) rest 0)
IsFeedFault (Cut at) fed piece old new = ⊥
IsFeedFault (Ended first at) fed piece old new = ⊥
IsFeedFault Memory fed piece old new = new ≡ old

-- The input ended: what is left is the last message.
pub record Ends (framer : Framing) (old new : List (List ℕ)) : Type 0 where
  pub no_length : begins_length framer.rest ≡ false
  pub given : new ≡ old ++ unless_empty framer.rest

-- The input ended inside a counted frame. That memory ran out leaves all as it was.
abbrev pub IsCut : FrameFault → Framing → Framing → List (List ℕ) → List (List ℕ) → Type 0
IsCut (Cut at) before after old new =
    (before.end ≡ None) × (begins_length before.rest ≡ true) × (at ≡ before.start) × (new ≡ old)
    × (after.end ≡ Some (3, at))
IsCut Memory before after old new = (after ≡ before) × (new ≡ old)
IsCut (BadLength at) before after old new = ⊥
IsCut (TooLong at) before after old new = ⊥
IsCut (Ended first at) before after old new = before.end ≡ Some (first, at)

-- the end of a stream that a fault makes: of those that end it, their number and place
abbrev pub end_after : FrameFault → Option (ℕ × ℕ) → Option (ℕ × ℕ)
end_after (BadLength at) end = Some (1, at)
end_after (TooLong at) end = Some (2, at)
end_after (Cut at) end = Some (3, at)
end_after (Ended first at) end = end
end_after Memory end = end

-- how a fault prints
abbrev pub fault_text : FrameFault → List ℕ
fault_text (BadLength at) = codes "BadLength at " ++ decimal at
fault_text (TooLong at) = codes "TooLong at " ++ decimal at
fault_text (Cut at) = codes "Cut at " ++ decimal at
fault_text (Ended first at) = codes "Ended " ++ (decimal first ++ (codes " at " ++ decimal at))
fault_text Memory = codes "no memory"
