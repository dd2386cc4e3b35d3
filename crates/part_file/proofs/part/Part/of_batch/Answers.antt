use Rattle.std.proofs.Common.{subst, sym}
use Rattle.log_model.specs.History.{numbered_in}
use Rattle.part_model.specs.Part.{ArePartRows}
use Rattle.part_model.proofs.PartLaws.{batch-is}
use Rattle.part_model.proofs.RowLaws.{batch-part}
use Rattle.part_file.proofs.HoldLaws.{permuted-to}
use Rattle.part_file.proofs.part.Part.of_batch.Goals as goal

pub of_lent-requires : goal.of_lent-requires
of_lent-requires c =
    subst ArePartRows (sym c.in_ok-rows.ensures.rows) (batch-part 0 c.args.batch.now c.in_ok-rows.ensures.rules)

pub returns-clause-same : goal.returns-clause-same
returns-clause-same c =
    permuted-to c.in_ok-part.part c.in_ok-rows.rows.items (numbered_in 0 c.args.batch.now) c.in_ok-part.ensures
    c.in_ok-rows.ensures.rows

pub returns-clause-whole : goal.returns-clause-whole
returns-clause-whole c =
    batch-is c.in_ok-part.part c.args.batch.now c.in_ok-rows.ensures.rules.some (permuted-to c.in_ok-part.part
    c.in_ok-rows.rows.items (numbered_in 0 c.args.batch.now) c.in_ok-part.ensures c.in_ok-rows.ensures.rows)
