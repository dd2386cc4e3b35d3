use Rattle.std.proofs.Common.{◌+◌, ◌≡◌, [], ap, arith, length, take}
use Rattle.log_model.specs.Field.{set_all}
use Rattle.block_format.proofs.SaidLaws.{label-more, more-set}
use Rattle.block_format.proofs.said.labels_said.Goals as goal

pub returns-then-len-gt-MAX_FIELDS : goal.returns-then-len-gt-MAX_FIELDS
returns-then-len-gt-MAX_FIELDS c =
    let so_far : c.set.new.self ≡ set_all [] (take (c.loop-label.label-index + 1) c.args.labels.now) =
    label-more c.args.labels.now c.loop-label.label-index c.label-item.result c.name.result.now c.value.result.now
    c.loop-label.said c.set.new.self c.loop-label-test.true c.label-item.is c.name.ensures c.value.ensures
    c.loop-label.invariant c.in_ok-set.ensures.ok in
    omega (
      arith,
      c.if-len-gt-MAX_FIELDS.true,
      c.len.ensures,
      ap length so_far,
      more-set [] c.args.labels.now (c.loop-label.label-index + 1) c.requires,
    )
