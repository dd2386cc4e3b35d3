use Rattle.std.proofs.Common.{sym, ap, ◌∙◌, ◌++◌, List, ℕ}
use Rattle.std.proofs.lemmas.List.{append_assoc}
use Rattle.syslog_in.specs.Framing.{unless_empty}
use Rattle.syslog_in.proofs.Streams.{frame_shorter, one_frame, more_frames}
use Rattle.syslog_in.proofs.reach.read_whole.Goals as goal

pub frames-smaller : goal.frames-smaller
frames-smaller c = frame_shorter c.frames.rest.now c.in-Whole.message.now c.in-Whole.after.now (sym c.in-Whole.ensures)

pub frames-preserved : goal.frames-preserved
frames-preserved c =
    let so_far = c.frames.invariant in
    let message = c.in-Whole.message.now in (
      so_far.0 ++ unless_empty message,
      more_frames c.args.bytes.now c.frames.rest.now c.in-Whole.after.now so_far.0 (unless_empty message) so_far.1
          (one_frame c.frames.rest.now message c.in-Whole.after.now (sym c.in-Whole.ensures)),
      c.in_ok-push_message-in-Whole.ensures.ok
          ∙ ap (λ (ms : List (List ℕ)). ms ++ unless_empty message) so_far.2
          ∙ append_assoc c.args.out.now so_far.0 (unless_empty message),
    )
