use Rattle.std.proofs.Common.{arith}
use Rattle.std.proofs.lemmas.Result.{err_from_is_err_and}
use Rattle.byte_format.proofs.Damage.{bad-at, stops-left}
use Rattle.byte_format.proofs.Windows.{cut-window, read-window, stopped-window, stops-short}
use Rattle.byte_format.proofs.exactly.take_inside.Goals as goal

pub returns-then-bytes-length-clause-items : goal.returns-then-bytes-length-clause-items
returns-then-bytes-length-clause-items g c =
    cut-window (g.S.Spelled.format c.args.context) c.args.length c.args.bytes.now _ c.if-bytes-length.true
    c.in_ok-take_whole.ensures.items

pub overflow_add-result : goal.overflow_add-result
overflow_add-result g c =
    let stop = stops-left c.in-Err-Left.field-0 c.in-Err-Left.left _ c.in-Err-Left.field-0-is
    c.in-Err-Left.ensures.items in
    let r = bad-at (g.S.Spelled.format c.args.context) c.split_at.result.0.now c.in-Err-Left.left stop in
    omega (arith, r.0, c.split_at.ensures.front_len, c.split_at.ensures.back_len, c.if-bytes-length.false)

pub returns-in-Ok-clause-items : goal.returns-in-Ok-clause-items
returns-in-Ok-clause-items g c =
    read-window (g.S.Spelled.format c.args.context) c.args.length c.args.bytes.now c.split_at.result.0.now
    c.split_at.result.1.now (g.S.Spelled.meant c.in-Ok.items) c.if-bytes-length.false c.split_at.ensures.front
    c.split_at.ensures.back c.in-Ok.ensures.items

pub returns-in-Err-Left-clause-items : goal.returns-in-Err-Left-clause-items
returns-in-Err-Left-clause-items g c =
    stopped-window (g.S.Spelled.format c.args.context) c.args.length c.args.bytes.now c.split_at.result.0.now
    c.split_at.result.1.now c.in-Err-Left.left c.if-bytes-length.false c.split_at.ensures.front
    c.split_at.ensures.back
    (stops-left c.in-Err-Left.field-0 c.in-Err-Left.left _ c.in-Err-Left.field-0-is c.in-Err-Left.ensures.items)

pub returns-in_err-take_whole-clause-items : goal.returns-in_err-take_whole-clause-items
returns-in_err-take_whole-clause-items g c =
    let p = err_from_is_err_and c.from_residual.result c.from_residual.ensures.1 in
    rw (p.1, p.2) (stops-short c.in_err-take_whole.field-0.0 (g.S.Spelled.format c.args.context) c.args.length
    c.args.bytes.now c.if-bytes-length.true c.in_err-take_whole.ensures.items)
