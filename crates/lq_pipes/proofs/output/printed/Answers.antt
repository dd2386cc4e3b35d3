use Rattle.std.proofs.Common.{arith}
use Rattle.std.proofs.lemmas.Grind.{common_steps}
use Rattle.lq_pipes.proofs.Printed.{print-object_tokens}
use Rattle.lq_pipes.proofs.output.printed.Goals as goal

pub returns : goal.returns
returns c =
    let text = print-object_tokens c.args.r.now in
    grind (arith, common_steps)
