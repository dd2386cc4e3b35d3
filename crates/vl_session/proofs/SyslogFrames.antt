-- Bytes as whole frames and a rest.
use Rattle.std.proofs.Common.{◌≡◌, ℕ, suc, zero, ◌<◌, ◌≤◌, List, [], ◌∷◌, ◌++◌, length, refl, sym, ap}
use Rattle.std.proofs.Common.{subst, ◌∙◌, arith}
use Rattle.std.specs.Prelude.{flat_map}
use Rattle.std.proofs.lemmas.List.{length-append}
use Rattle.syslog_in.specs.Framer.{Completes}
use Rattle.syslog_in.specs.Framing.{AreFrames, Frame, counted, ended, message_of, messages_of, source, unless_empty}
use Rattle.syslog_in.specs.Reading.{Step, bad_length, short, step_at, too_long, whole}
use Rattle.syslog_in.proofs.Streams.{frame_shorter, frames_behind, frames_unique, more_frames, no_frames}
use Rattle.syslog_in.proofs.Streams.{none_from_step, one_frame}
use Rattle.vl_session.specs.SyslogSession.{IsFront}

-- ---- there are such frames

abbrev HasFrames : List ℕ → Type 0
HasFrames bytes = (messages : List (List ℕ)) × (rest : List ℕ) × AreFrames bytes messages rest

no_whole : (bytes : List ℕ) (step : Step) → ((message rest : List ℕ) → step ≡ whole message rest → ⊥)
    → step_at bytes ≡ step
    → HasFrames bytes
no_whole bytes step other e = (
  [],
  bytes,
  record {
    frames = no_frames bytes;
    none = none_from_step bytes (λ message rest same. other message rest (sym e ∙ same));
  },
)

by_step : (bytes : List ℕ) (step : Step) → step_at bytes ≡ step
    → ((rest : List ℕ) → length rest < length bytes → HasFrames rest) → HasFrames bytes
by_step bytes (whole message rest) e later =
    let l = later rest (frame_shorter bytes message rest e) in (
      unless_empty message ++ l.0,
      l.1,
      record {
        frames = more_frames bytes rest l.1 (unless_empty message) l.0 (one_frame bytes message rest e) l.2.frames;
        none = l.2.none;
      },
    )
by_step bytes short e later = no_whole bytes short (λ message rest same. absurd cc) e
by_step bytes (bad_length place) e later = no_whole bytes (bad_length place) (λ message rest same. absurd cc) e
by_step bytes too_long e later = no_whole bytes too_long (λ message rest same. absurd cc) e

within : (n : ℕ) (bytes : List ℕ) → length bytes < n → HasFrames bytes
within zero bytes few = absurd (omega (arith, few))
within (suc n) bytes few =
    by_step bytes (step_at bytes) refl (λ rest less. within n rest (omega (arith, few, less)))

has_frames : (bytes : List ℕ) → HasFrames bytes
has_frames bytes = within (suc (length bytes)) bytes (omega arith)

-- whatever follows, these messages stay the first
pub front_more : (bytes piece rest : List ℕ) (messages : List (List ℕ)) → AreFrames bytes messages rest
    → IsFront (bytes ++ piece) messages
front_more bytes piece rest messages a =
    let more = has_frames (rest ++ piece) in
    record {
      later = more.0;
      rest = more.1;
      frames = record {
        frames = more_frames (bytes ++ piece) (rest ++ piece) more.1 messages more.0
            (frames_behind bytes rest piece messages a.frames) more.2.frames;
        none = more.2.none;
      };
    }

-- ---- a piece more

pub frames_more : (bytes piece rest left : List ℕ) (messages more : List (List ℕ)) → AreFrames bytes messages rest
    → Completes bytes piece [] more left → AreFrames (bytes ++ piece) (messages ++ more) left
frames_more bytes piece rest left messages more a c =
    let same = frames_unique bytes c.before messages c.left rest c.is_before a in
    subst (λ l. AreFrames (bytes ++ piece) (messages ++ l) left) (sym c.given)
    (subst (λ l. AreFrames (bytes ++ piece) (l ++ c.more) left) same.0 c.is_after)

-- ---- there are at most as many messages as bytes

source_some : (frame : Frame) → 0 < length (source frame)
source_some (counted digits message) = omega (arith, length-append digits (32 ∷ message))
source_some (ended line) = omega (arith, length-append line (10 ∷ []))

pub one_at_most : (message : List ℕ) → length (unless_empty message) ≤ 1
one_at_most [] = omega arith
one_at_most (byte ∷ bytes) = omega arith

few_of : (frames : List Frame) → length (messages_of frames) ≤ length (flat_map source frames)
few_of [] = omega arith
few_of (frame ∷ frames) = omega (
  arith,
  few_of frames,
  source_some frame,
  one_at_most (message_of frame),
  length-append (unless_empty (message_of frame)) (messages_of frames),
  length-append (source frame) (flat_map source frames),
)

pub few_messages : (bytes rest : List ℕ) (messages : List (List ℕ)) → AreFrames bytes messages rest
    → length messages ≤ length bytes
few_messages bytes rest messages a = omega (
  arith,
  ap length a.frames.messages_are,
  ap length a.frames.spelled,
  length-append (flat_map source a.frames.frames) rest,
  few_of a.frames.frames,
)
