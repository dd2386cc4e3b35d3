use Rattle.std.proofs.Common.{arith}
use Rattle.std.proofs.lemmas.Grind.{common_steps}
use Rattle.lq_pipes.proofs.Printed.{print-object_tokens}
use Rattle.log_model.specs.Row.{record_of}
use Rattle.lq_pipes.proofs.record.line.Goals as goal

pub returns : goal.returns
returns g c =
    let printed = print-object_tokens (record_of (g.R.LentRow.event c.args.row.now)) in
    grind (arith, common_steps)
