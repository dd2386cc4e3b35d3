use Rattle.std.proofs.Common.{length}
use Rattle.lq_plain.proofs.patterns.+push_tests.Given as goal

abbrev pub decreases-push_tests : goal.decreases-push_tests
decreases-push_tests l = length l.tests.now
