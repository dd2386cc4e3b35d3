use Rattle.std.proofs.lemmas.Result.{on_ok_weaker}
use Rattle.std.proofs.Common.{ap, ◌∙◌}
use Rattle.log_model.specs.Stream.{label_text, stream_id}
use Rattle.lq_pipes.proofs.Merged.{tokens-record_of}
use Rattle.lq_pipes.proofs.record.write_record.Goals as goal

pub returns-clause-ok : goal.returns-clause-ok
returns-clause-ok g c =
    let stream = c.in_ok-next.ensures in
    let id = c.in_ok-next-2.ensures in
    let time = c.in_ok-next-3.ensures in
    on_ok_weaker c.write_cells.result
    (λ written. written ∙ tokens-record_of (g.R.LentRow.event c.args.row.now) c.rules.ensures.row _ _ _ _ _ _ _ _ _ _ _
    c.rules.ensures.fields (c.text.ensures ∙ ap label_text c.requires.stream)
    (c.id.ensures ∙ ap stream_id c.requires.stream) c.requires.time stream.ok stream.rest id.ok id.rest time.ok time.rest)
    c.write_cells.ensures.ok
