use Rattle.std.proofs.Common.{arith, rules}
use Rattle.std.proofs.lemmas.Grind.{common_steps}
use Rattle.vl_io.proofs.Telling.{tells_moment}
use Rattle.vl_io.proofs.memory.MemClockClock.now.Goals as goal

pub returns-clause-told : goal.returns-clause-told
returns-clause-told c = tells_moment c.args.self.now _ _ (search rules) (search rules) (grind (arith, common_steps))
