-- Whole frames one after another, and what is left of a stream.
use Rattle.std.proofs.Common.{◌≡◌, ℕ, ◌≤◌, ◌<◌, List, [], ◌∷◌, ◌++◌, length}
use Rattle.std.proofs.Common.{refl, sym, ap, arith, ◌∙◌}
use Rattle.std.specs.List.{AllByRecursion, flat_map}
use Rattle.std.proofs.lemmas.Grind.{flat_map-append}
use Rattle.std.proofs.lemmas.List.{append_assoc, append-nil, length-append}
use Rattle.vl_row.proofs.Sorted.{all_append}
use Rattle.syslog_in.specs.Framing.{Frame, counted, ended, IsFrame, source, message_of, unless_empty}
use Rattle.syslog_in.specs.Framing.{messages_of}
use Rattle.syslog_in.specs.Framing.{BeginsWithFrames, BeginsWithNone, AreFrames}
use Rattle.syslog_in.specs.Reading.{whole, step_at}
use Rattle.syslog_in.proofs.Steps.{whole_takes, whole_again}

-- ---- a frame is not empty

source-some : (frame : Frame) → 0 < length (source frame)
source-some (counted digits message) = omega (arith, length-append digits (32 ∷ message))
source-some (ended line) = omega (arith, length-append line (10 ∷ []))

pub frame_shorter : (bytes message rest : List ℕ) → step_at bytes ≡ whole message rest → length rest < length bytes
frame_shorter bytes message rest e =
    let at = whole_takes bytes message rest e in
    omega (arith, ap length at.spelled, length-append (source at.frame) rest, source-some at.frame)

-- ---- frames one after another

pub no_frames : (bytes : List ℕ) → BeginsWithFrames bytes [] bytes
no_frames bytes = record { frames = []; each = tt; spelled = refl; messages_are = refl }

pub one_frame : (bytes message rest : List ℕ) → step_at bytes ≡ whole message rest
    → BeginsWithFrames bytes (unless_empty message) rest
one_frame bytes message rest e =
    let at = whole_takes bytes message rest e in
    record {
      frames = at.frame ∷ [];
      each = (at.is_frame, tt);
      spelled = at.spelled ∙ ap (λ (t : List ℕ). t ++ rest) (sym (append-nil (source at.frame)));
      messages_are = ap unless_empty at.message_is ∙ sym (append-nil (unless_empty (message_of at.frame)));
    }

pub more_frames : (bytes middle rest : List ℕ) (messages others : List (List ℕ))
    → BeginsWithFrames bytes messages middle
    → BeginsWithFrames middle others rest → BeginsWithFrames bytes (messages ++ others) rest
more_frames bytes middle rest messages others first then = record {
  frames = first.frames ++ then.frames;
  each = all_append IsFrame first.frames then.frames first.each then.each;
  spelled = first.spelled
      ∙ ap (λ (t : List ℕ). flat_map source first.frames ++ t) then.spelled
      ∙ sym (append_assoc (flat_map source first.frames) (flat_map source then.frames) rest)
      ∙ ap (λ (t : List ℕ). t ++ rest) (sym (flat_map-append source first.frames then.frames));
  messages_are = ap (λ (ms : List (List ℕ)). ms ++ others) first.messages_are
      ∙ ap (λ (ms : List (List ℕ)). messages_of first.frames ++ ms) then.messages_are
      ∙ sym (flat_map-append (λ (frame : Frame). unless_empty (message_of frame)) first.frames then.frames);
}

-- the same frames, with more bytes after them
pub frames_behind : (bytes rest more : List ℕ) (messages : List (List ℕ)) → BeginsWithFrames bytes messages rest
    → BeginsWithFrames (bytes ++ more) messages (rest ++ more)
frames_behind bytes rest more messages h = record {
  frames = h.frames;
  each = h.each;
  spelled = ap (λ (t : List ℕ). t ++ more) h.spelled ∙ append_assoc (flat_map source h.frames) rest more;
  messages_are = h.messages_are;
}

pub rest_fits : (bytes rest : List ℕ) (messages : List (List ℕ)) → BeginsWithFrames bytes messages rest
    → length rest ≤ length bytes
rest_fits bytes rest messages h =
    omega (arith, ap length h.spelled, length-append (flat_map source h.frames) rest)

-- ---- no frame at the start

pub none_from_step : (rest : List ℕ) → ((message more : List ℕ) → step_at rest ≡ whole message more → ⊥)
    → BeginsWithNone rest
none_from_step rest other = λ frame more is spelled.
    other (message_of frame) more (ap step_at spelled ∙ whole_again frame more is)

-- two ways to see the frames of a stream are one
unique : (frames others : List Frame) (rest left : List ℕ) → AllByRecursion IsFrame frames
    → AllByRecursion IsFrame others
    → BeginsWithNone rest → BeginsWithNone left
    → flat_map source frames ++ rest ≡ flat_map source others ++ left
    → (messages_of frames ≡ messages_of others) × (rest ≡ left)
unique [] [] rest left each all none none₂ e = (refl, e)
unique [] (frame ∷ others) rest left each all none none₂ e =
    absurd (none frame (flat_map source others ++ left) all.0
    (e ∙ append_assoc (source frame) (flat_map source others) left))
unique (frame ∷ frames) [] rest left each all none none₂ e =
    absurd (none₂ frame (flat_map source frames ++ rest) each.0
    (sym e ∙ append_assoc (source frame) (flat_map source frames) rest))
unique (frame ∷ frames) (other ∷ others) rest left each all none none₂ e =
    let one = whole_again frame (flat_map source frames ++ rest) each.0 in
    let two = whole_again other (flat_map source others ++ left) all.0 in
    let texts = sym (append_assoc (source frame) (flat_map source frames) rest) ∙ e
    ∙ append_assoc (source other) (flat_map source others) left in
    let same = sym one ∙ ap step_at texts ∙ two in
    let message : message_of frame ≡ message_of other = cc in
    let behind : flat_map source frames ++ rest ≡ flat_map source others ++ left = cc in
    let later = unique frames others rest left each.1 all.1 none none₂ behind in (
      ap (λ (ms : List (List ℕ)). unless_empty (message_of frame) ++ ms) later.0
          ∙ ap (λ (m : List ℕ). unless_empty m ++ messages_of others) message,
      later.1,
    )

-- bytes are whole frames and a rest in one way
pub frames_unique : (bytes : List ℕ) (messages others : List (List ℕ)) (rest left : List ℕ)
    → AreFrames bytes messages rest → AreFrames bytes others left → (messages ≡ others) × (rest ≡ left)
frames_unique bytes messages others rest left h k =
    let same = unique h.frames.frames k.frames.frames rest left h.frames.each k.frames.each h.none k.none
    (sym h.frames.spelled ∙ k.frames.spelled) in
    (h.frames.messages_are ∙ same.0 ∙ sym k.frames.messages_are, same.1)
