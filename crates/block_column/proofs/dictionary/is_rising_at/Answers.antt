use Rattle.std.proofs.Common.{◌≡◌, ◌-◌, ◌<◌, length, arith}
use Rattle.block_model.specs.Distinct.{text_at}
use Rattle.block_column.proofs.Whole.{text-at}
use Rattle.block_column.proofs.dictionary.is_rising_at.Goals as goal

pub returns : goal.returns
returns c e =
    let lt : c.args.i - 1 < length c.args.held.now = omega arith in
    rw (
      text-at c.args.held.now (c.args.i - 1) c.get-before.result.now lt c.get-before.ensures.value,
      text-at c.args.held.now c.args.i c.get-text.result.now c.requires.within c.get-text.ensures.value,
    ) (c.is_below.ensures.0 e)
