use Rattle.std.proofs.Common.{◌≡◌, ◌<◌, ◌∙◌, arith, get_or, length}
use Rattle.std.proofs.lemmas.Option.{get_or_from_slice_get}
use Rattle.log_model.specs.History.{Numbered}
use Rattle.log_model.specs.Row.{value_of}
use Rattle.lq_filter.specs.Value.{field_holds, field_name}
use Rattle.block_scan.proofs.Fields.{as_first}
use Rattle.block_scan.proofs.Staying.{kept-constant, kept-empty}
use Rattle.block_scan.proofs.leaves.keep_of_stream.Goals as goal

pub returns-then-count-eq0 : goal.returns-then-count-eq0
returns-then-count-eq0 c =
    kept-empty (λ (numbered : Numbered). field_holds c.args.field.now (value_of numbered.row (field_name c.args.field.now)))
    c.args.rows.now c.args.marks.now (omega arith)

pub returns : goal.returns
returns c =
    let test = field_holds c.args.field.now in
    let name = field_name c.args.field.now in
    let rows = c.args.rows.now in
    let first = c.lent.result.numbered in
    let some : 0 < length rows = omega arith in
    let is : get_or rows 0 first ≡ first = get_or_from_slice_get rows 0 first first c.lent.ensures.row in
    let all = as_first test name rows first c.stream-stream.result.now c.in_ok-stay.stay c.stream-stream.ensures some is
    c.requires.alike c.in_ok-stay.ensures in
    c.settle.ensures
    ∙ kept-constant (λ (numbered : Numbered). test (value_of numbered.row name)) c.in_ok-stay.stay rows c.args.marks.now
    all c.requires.rows
