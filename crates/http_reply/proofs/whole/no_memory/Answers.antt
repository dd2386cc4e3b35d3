use Rattle.http_reply.proofs.Pages.{no_memory_bare, no_memory_closing, no_memory_last, no_memory_open}
use Rattle.http_reply.proofs.whole.no_memory.Goals as goal

pub returns-in-true-true : goal.returns-in-true-true
returns-in-true-true c = no_memory_last c.args.delivery c.in-true-true.is-0 c.in-true-true.is-1

pub returns-in-true-false : goal.returns-in-true-false
returns-in-true-false c = no_memory_bare c.args.delivery c.in-true-false.is-0 c.in-true-false.is-1

pub returns-in-false-true : goal.returns-in-false-true
returns-in-false-true c = no_memory_closing c.args.delivery c.in-false-true.is-0 c.in-false-true.is-1

pub returns-in-false-false : goal.returns-in-false-false
returns-in-false-false c = no_memory_open c.args.delivery c.in-false-false.is-0 c.in-false-false.is-1
