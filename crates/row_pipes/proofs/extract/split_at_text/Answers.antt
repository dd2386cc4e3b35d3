use Rattle.std.proofs.Common.{refl}
use Rattle.row_pipes.proofs.Splitting.{left_after-parts, part_before-parts}
use Rattle.row_pipes.proofs.extract.split_at_text.Goals as goal

pub returns-clause-before : goal.returns-clause-before
returns-clause-before c =
    rw c.unwrap_or.ensures
    (part_before-parts c.args.text.now c.args.value.now c.split_once.result _ c.split_once.ensures.cases refl)

pub returns-clause-after : goal.returns-clause-after
returns-clause-after c =
    rw c.unwrap_or.ensures
    (left_after-parts c.args.text.now c.args.value.now c.split_once.result _ c.split_once.ensures.cases refl)
