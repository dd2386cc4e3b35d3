use Rattle.std.proofs.Common.{◌≡◌, ◌≤◌, ◌∙◌, ap, arith, length, sym}
use Rattle.log_model.specs.Row.{Row}
use Rattle.vl_row.specs.Faults.{labels_of}
use Rattle.block_format.proofs.SaidLaws.{labels-all}
use Rattle.block_format.proofs.said.stream_of.Goals as goal

pub returns-in-Ok : goal.returns-in-Ok
returns-in-Ok c =
    let labels : c.stream.result.now ≡ labels_of c.as_slice.result.now c.args.labels =
    c.stream.ensures ∙ ap (λ (r : Row). r.labels) c.in-Ok.ensures.ok.1 in
    let all : length c.args.labels ≤ length (labels_of c.as_slice.result.now c.args.labels) =
    omega (arith, c.if-len-count.false, c.len.ensures, c.len-count.ensures, ap length labels) in
    let again : c.stream-in-Ok.result.now ≡ labels_of c.as_slice.result.now c.args.labels =
    c.stream-in-Ok.ensures ∙ ap (λ (r : Row). r.labels) c.in-Ok.ensures.ok.1 in
    c.in_ok-stream-in-Ok.ensures ∙ again ∙ labels-all c.as_slice.result.now c.args.labels all
