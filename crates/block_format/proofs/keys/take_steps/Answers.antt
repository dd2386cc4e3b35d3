use Rattle.std.proofs.Common.{length, ap, sym, ◌∙◌}
use Rattle.std.specs.Int.{w32, w64}
use Rattle.byte_format.specs.Items.{number, signed}
use Rattle.byte_format.proofs.Turns.{many-length}
use Rattle.block_format.proofs.KeyLaws.{zipped-length}
use Rattle.block_format.proofs.keys.take_steps.Goals as goal

pub zipped-requires-clause-batches : goal.zipped-requires-clause-batches
zipped-requires-clause-batches c =
    ap length c.as_slice-2.ensures.value
    ∙ many-length (number w64) c.args.rows c.in_ok-times.rest.now (
      c.in_ok-batches.batches.items,
      c.in_ok-batches.rest.now,
    ) c.in_ok-batches.ensures
    ∙ sym (many-length signed c.args.rows c.args.bytes.now (c.in_ok-times.times.items, c.in_ok-times.rest.now)
    c.in_ok-times.ensures)
    ∙ sym (ap length c.as_slice.ensures.value)

pub zipped-requires-clause-places : goal.zipped-requires-clause-places
zipped-requires-clause-places c =
    ap length c.as_slice-3.ensures.value
    ∙ many-length (number w32) c.args.rows c.in_ok-batches.rest.now (
      c.in_ok-places.places.items,
      c.in_ok-places.rest.now,
    ) c.in_ok-places.ensures
    ∙ sym (many-length signed c.args.rows c.args.bytes.now (c.in_ok-times.times.items, c.in_ok-times.rest.now)
    c.in_ok-times.ensures)
    ∙ sym (ap length c.as_slice.ensures.value)

pub returns-clause-count : goal.returns-clause-count
returns-clause-count c =
    let times = many-length signed c.args.rows c.args.bytes.now (
      c.in_ok-times.times.items,
      c.in_ok-times.rest.now,
    ) c.in_ok-times.ensures in
    let batches = ap length c.as_slice-2.ensures.value
    ∙ many-length (number w64) c.args.rows c.in_ok-times.rest.now (
      c.in_ok-batches.batches.items,
      c.in_ok-batches.rest.now,
    ) c.in_ok-batches.ensures
    ∙ sym times ∙ sym (ap length c.as_slice.ensures.value) in
    let places = ap length c.as_slice-3.ensures.value
    ∙ many-length (number w32) c.args.rows c.in_ok-batches.rest.now (
      c.in_ok-places.places.items,
      c.in_ok-places.rest.now,
    ) c.in_ok-places.ensures
    ∙ sym times ∙ sym (ap length c.as_slice.ensures.value) in
    ap length c.in_ok-keys.ensures
    ∙ zipped-length c.as_slice.result.now c.as_slice-2.result.now c.as_slice-3.result.now batches places
    ∙ ap length c.as_slice.ensures.value ∙ times
