-- A piece of a stream after what is kept of an unfinished frame.
use Rattle.std.proofs.Common.{◌≡◌, ℕ, ◌+◌, ◌-◌, ◌≤◌, List, [], ◌++◌, length, take, drop}
use Rattle.std.proofs.Common.{refl, sym, ap, subst, arith, ◌∙◌, inl, inr}
use Rattle.std.proofs.Math.Seq.{take-append-add}
use Rattle.std.proofs.lemmas.Bool.{cases_lt}
use Rattle.std.proofs.lemmas.List.{take-append-drop, append_assoc, append-nil, length-append, take_at, drop_at}
use Rattle.std.proofs.lemmas.List.{drop-drop}
use Rattle.std.proofs.lemmas.List.{drop-append-le, length-take-le, length-drop, take-take, drop-take}
use Rattle.syslog_in.specs.Framing.{source, unless_empty, BeginsWithFrames}
use Rattle.syslog_in.specs.Framer.{place}
use Rattle.syslog_in.specs.Reading.{whole, short, bad_length, too_long, step_at, why_step, Reads}
use Rattle.syslog_in.specs.declared.reach.Stop.{Stop}
use Rattle.syslog_in.proofs.Steps.{whole_takes, whole_again}
use Rattle.syslog_in.proofs.Stops.{bad_takes, bad_again, bad_more, long_takes, long_again, long_more}
use Rattle.syslog_in.proofs.Streams.{one_frame, more_frames, frames_behind, no_frames, rest_fits}

-- one turn more of what is appended
pub grown : (start kept new piece : List ℕ) (used more : ℕ) → kept ≡ start ++ take used piece
    → new ≡ kept ++ take (used + more - used) (drop used piece) → new ≡ start ++ take (used + more) piece
grown start kept new piece used more kept_is new_is =
    let count : used + more - used ≡ more = omega arith in
    let parts : take used piece ++ take more (drop used piece) ≡ take (used + more) piece =
    ap (λ (t : List ℕ). t ++ take more (drop used piece)) (sym (take-take used (used + more) piece (omega arith)))
    ∙ ap (λ (t : List ℕ). take used (take (used + more) piece) ++ t) (sym (drop-take used more piece))
    ∙ take-append-drop used (take (used + more) piece) in
    new_is ∙ ap (λ (n : ℕ). kept ++ take n (drop used piece)) count
    ∙ ap (λ (t : List ℕ). t ++ take more (drop used piece)) kept_is
    ∙ append_assoc start (take used piece) (take more (drop used piece)) ∙ ap (λ (t : List ℕ). start ++ t) parts

-- Where no frame was whole, what follows one that became whole is of the bytes added to it.
pub rest_within : (kept more message rest : List ℕ) → step_at kept ≡ short → step_at (kept ++ more) ≡ whole message rest
    → length rest ≤ length more
rest_within kept more message rest open_is e =
    let at = whole_takes (kept ++ more) message rest e in
    let s = source at.frame in
    let lengths : length kept + length more ≡ length s + length rest =
    sym (length-append kept more) ∙ ap length at.spelled ∙ length-append s rest in
    elim (cases_lt (length more) (length rest)) [
      | inl beyond ↦
          let n : length s + (length kept - length s) ≡ length kept = omega arith in
          let same : kept ≡ s ++ take (length kept - length s) rest =
          sym (take_at kept more (length kept) refl) ∙ ap (take (length kept)) at.spelled
          ∙ ap (λ (k : ℕ). take k (s ++ rest)) (sym n) ∙ take-append-add s rest (length kept - length s) in
          let step = ap step_at same ∙ whole_again at.frame (take (length kept - length s) rest) at.is_frame in
          absurd cc
      | inr within ↦ within
    ]

module _ (kept piece message rest : List ℕ) (used : ℕ) (fits : used ≤ length piece) (open_is : step_at kept ≡ short)
    (e : step_at (kept ++ take used piece) ≡ whole message rest) where
  abbrev front : List ℕ
  front = take used piece

  abbrev back : List ℕ
  back = drop used piece

  abbrev behind : List ℕ
  behind = drop (used - length rest) piece

  pub rest_fits_in : length rest ≤ used
  rest_fits_in =
      omega (arith, rest_within kept front message rest open_is e, length-take-le used piece fits)

  front_rest : rest ≡ drop (used - length rest) front
  front_rest =
      let at = whole_takes (kept ++ front) message rest e in
      let s = source at.frame in
      let j = used - length rest in
      let within = rest_fits_in in
      let lengths : length kept + length front ≡ length s + length rest =
      sym (length-append kept front) ∙ ap length at.spelled ∙ length-append s rest in
      let n : length s ≡ length kept + j = omega (arith, length-take-le used piece fits) in
      sym (drop_at s rest (length s) refl) ∙ ap (drop (length s)) (sym at.spelled)
      ∙ ap (λ (k : ℕ). drop k (kept ++ front)) n ∙ sym (drop-drop j (length kept) (kept ++ front))
      ∙ ap (drop j) (drop_at kept front (length kept) refl)

  rest_behind : rest ++ back ≡ behind
  rest_behind =
      ap (λ (t : List ℕ). t ++ back) front_rest
      ∙ sym (drop-append-le (used - length rest) front back (omega (arith, length-take-le used piece fits)))
      ∙ ap (drop (used - length rest)) (take-append-drop used piece)

  whole_piece : (kept ++ front) ++ back ≡ kept ++ piece
  whole_piece = append_assoc kept front back ∙ ap (λ (t : List ℕ). kept ++ t) (take-append-drop used piece)

  first_read : BeginsWithFrames (kept ++ piece) (unless_empty message) behind
  first_read =
      subst (λ (t : List ℕ). BeginsWithFrames t (unless_empty message) behind) whole_piece
      (subst (λ (t : List ℕ). BeginsWithFrames ((kept ++ front) ++ back) (unless_empty message) t) rest_behind
      (frames_behind (kept ++ front) rest back (unless_empty message) (one_frame (kept ++ front) message rest e)))

  pub reads_behind : (old middle new : List (List ℕ)) (left : List ℕ) (stop : Stop) (passed : ℕ)
      → middle ≡ old ++ unless_empty message → Reads behind middle new left stop
      → passed ≡ place (length (kept ++ front) - length rest + stop.passed)
      → Reads (kept ++ piece) old new left (record { passed = passed; why = stop.why })
  reads_behind old middle new left stop passed middle_is r passed_is = record {
    messages = unless_empty message ++ r.messages;
    frames = more_frames (kept ++ piece) behind left (unless_empty message) r.messages first_read r.frames;
    given = r.given ∙ ap (λ (ms : List (List ℕ)). ms ++ r.messages) middle_is
        ∙ append_assoc old (unless_empty message) r.messages;
    why = r.why;
    passed = omega (
      arith,
      passed_is,
      r.passed,
      rest_fits_in,
      rest_fits behind left r.messages r.frames,
      length-append kept piece,
      length-append kept front,
      length-take-le used piece fits,
      length-drop (used - length rest) piece,
    );
  }

-- no whole frame was read
pub begun_reads : (bytes : List ℕ) (old : List (List ℕ)) (stop : Stop) → stop.passed ≡ 0
    → step_at bytes ≡ why_step stop.why → Reads bytes old old bytes stop
begun_reads bytes old stop none why = record {
  messages = [];
  frames = no_frames bytes;
  given = sym (append-nil old);
  why = why;
  passed = omega (arith, none);
}

all_of : (kept piece : List ℕ) (used : ℕ) → (kept ++ take used piece) ++ drop used piece ≡ kept ++ piece
all_of kept piece used = append_assoc kept (take used piece) (drop used piece)
    ∙ ap (λ (t : List ℕ). kept ++ t) (take-append-drop used piece)

-- what is wrong at the start stays so
pub bad_all : (kept piece : List ℕ) (used at : ℕ) → step_at (kept ++ take used piece) ≡ bad_length at
    → step_at (kept ++ piece) ≡ bad_length at
bad_all kept piece used at e =
    ap step_at (sym (all_of kept piece used))
    ∙ bad_again _ at (bad_more (kept ++ take used piece) (drop used piece) at (bad_takes _ at e))

pub long_all : (kept piece : List ℕ) (used : ℕ) → step_at (kept ++ take used piece) ≡ too_long
    → step_at (kept ++ piece) ≡ too_long
long_all kept piece used e =
    ap step_at (sym (all_of kept piece used))
    ∙ long_again _ (long_more (kept ++ take used piece) (drop used piece) (long_takes _ e))
