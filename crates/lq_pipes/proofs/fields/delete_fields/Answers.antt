use Rattle.std.proofs.Common.{ap, slice_set, sym, ◌∙◌}
use Rattle.std.proofs.lemmas.List.Edits.{map_over_more}
use Rattle.lq_ast.specs.Records.{Record, without_fields}
use Rattle.lq_pipes.proofs.Walked.{each_written}
use Rattle.lq_pipes.proofs.fields.delete_fields.Goals as goal

pub loop-record-preserved : goal.loop-record-preserved
loop-record-preserved c =
    let change = λ (r : Record). slice_set c.loop-record.record-items c.loop-record.record-index r in
    let done = λ (r : Record). without_fields c.args.names.now r in
    ap change c.remove_all.ensures.value ∙ ap (λ r. change (done r)) (sym c.record-item.is)
    ∙ map_over_more done c.deref_mut-record-items.result.now c.loop-record.record-items c.loop-record.record-index
    c.record-item.result c.loop-record-test.true c.loop-record.invariant c.record-item.is

pub returns : goal.returns
returns c = each_written (without_fields c.args.names.now) c.args.r c.into_vec-records.result.items
    c.deref_mut-record-items.result.now c.loop-record.record-items c.loop-record.record-index
    c.into_vec-records.result.len c.of.result c.into_vec-records.ensures c.deref_mut-record-items.ensures.value
    c.loop-record-test.false c.loop-record.auto.record-items c.loop-record.invariant c.into_vec-records.result.ok.0
    c.of.ensures
