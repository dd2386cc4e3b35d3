use Rattle.std.proofs.Common.{◌+◌, ◌*◌}
use Rattle.lq_parse_tests.proofs.shown_tests.+shown.Given as goal

abbrev pub decreases-push_filter : goal.decreases-push_filter
decreases-push_filter l = 2 * l.depth

abbrev pub decreases-push_joined : goal.decreases-push_joined
decreases-push_joined l = 2 * l.depth + 1
