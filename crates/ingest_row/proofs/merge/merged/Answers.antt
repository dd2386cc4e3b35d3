use Rattle.std.proofs.Common.{◌≡◌, ◌∙◌, ◌+◌, ap, refl, sym, List, arith}
use Rattle.ingest_row.proofs.Merging.{merging_done, merging_next, merging_none, next_named}
use Rattle.ingest_row.proofs.merge.merged.Goals as goal

pub loop-field-init : goal.loop-field-init
loop-field-init c =
    rw c.as_slice-field-items.ensures.value (merging_none c.args.fields c.reversed-left.result.items c.args.added.now
    c.in_ok-all.all c.reversed-left.ensures.value c.in_ok-all.ensures c.reversed-left.ensures.rules
    c.as_slice-field-items.ensures.rules c.requires)

pub move_below-requires : goal.move_below-requires
move_below-requires c = c.loop-field.invariant.named

pub set-requires : goal.set-requires
set-requires c =
    rw c.name-in-loop-field.ensures (next_named c.as_slice-field-items.result.now c.loop-field.field-index c.field-item.result
    c.loop-field-test.true c.field-item.is c.loop-field.invariant.filled)

pub loop-field-preserved : goal.loop-field-preserved
loop-field-preserved c =
    merging_next c.loop-field.all c.move_below.new.all c.set.new.self c.loop-field.left.items
    c.move_below.new.left.items c.in_ok-move_below.ensures.0 c.as_slice-field-items.result.now _
    c.loop-field.field-index c.field-item.result c.loop-field-test.true c.field-item.is c.in_ok-move_below.ensures.1
    c.in_ok-move_below.ensures.2 (rw (c.name-in-loop-field.ensures, c.value.ensures) at c.in_ok-set.ensures.ok) c.set.ensures.rules
    c.loop-field.invariant

pub move_all-requires : goal.move_all-requires
move_all-requires c = c.loop-field.invariant.named

pub returns : goal.returns
returns c =
    merging_done c.loop-field.all c.loop-field.left.items c.as_slice-field-items.result.now c.move_all.new.all _
    c.loop-field.field-index (omega (arith, c.loop-field-test.false)) c.in_ok-move_all.ensures c.loop-field.invariant
