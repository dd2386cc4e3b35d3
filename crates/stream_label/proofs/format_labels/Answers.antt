use Rattle.std.proofs.Common.{sym}
use Rattle.stream_label.proofs.Joined.{label_text-rest}
use Rattle.stream_label.proofs.format_labels.Goals as goal

pub loop-place-init : goal.loop-place-init
loop-place-init c = rw c.in_ok-text.ensures.ok (sym (label_text-rest c.args.labels.now))
