use Rattle.std.proofs.Common.{sym}
use Rattle.lq_pipes.proofs.Printed.{object_text-rest}
use Rattle.lq_pipes_tests.proofs.plain_tests.line.Goals as goal

pub loop-place-init : goal.loop-place-init
loop-place-init c = rw c.in_ok-line.ensures.ok (sym (object_text-rest c.args.fields.now))
