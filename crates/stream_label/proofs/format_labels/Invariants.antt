use Rattle.std.proofs.Common.{◌≡◌, ◌++◌, nat_lt, drop, string_bytes}
use Rattle.log_model.specs.Stream.{label_text}
use Rattle.stream_label.proofs.Joined.{rest_text}
use Rattle.stream_label.proofs.format_labels.Given as goal

abbrev pub invariant-loop-place : goal.invariant-loop-place
invariant-loop-place l =
    string_bytes l.text ++ rest_text (nat_lt 0 l.place) (drop l.place l.labels) ≡ label_text l.labels
