use Rattle.std.proofs.Common.{subst, map, arith}
use Rattle.lq_ast.specs.PipeView.{sort_by}
use Rattle.lq_order.specs.Column.{columns_cmp}
use Rattle.lq_order.specs.Mirror.{Mirrors}
use Rattle.lq_ast.specs.Sorting.{record_cmp}
use Rattle.lq_order.proofs.Columns.{mirrors_more, mirrors_none, take_whole}
use Rattle.lq_order.proofs.column.columns.Goals as goal

pub loop-key-init : goal.loop-key-init
loop-key-init c = rw c.in_ok-columns.ensures.items (mirrors_none c.args.records.now)

pub loop-key-preserved : goal.loop-key-preserved
loop-key-preserved c =
    mirrors_more c.loop-key.columns.items c.push.new.self.items c.in_ok-of.field-0 c.args.keys.now
    c.loop-key.key-index
    c.key-item.result c.args.records.now c.loop-key-test.true c.key-item.is c.in_ok-push.ensures.items
    c.loop-key.invariant
    c.in_ok-of.ensures

pub returns : goal.returns
returns c =
    let all = take_whole c.args.keys.now c.loop-key.key-index (omega arith) in
    subst (λ keys. Mirrors (columns_cmp c.loop-key.columns.items) (record_cmp (map sort_by keys))
    c.args.records.now) all
    c.loop-key.invariant
