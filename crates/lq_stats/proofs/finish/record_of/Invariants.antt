use Rattle.std.proofs.Common.{◌≡◌, length, map}
use Rattle.lq_stats.specs.Finish.{set_states}
use Rattle.lq_stats.specs.Function.{statistic_of}
use Rattle.lq_stats.proofs.finish.record_of.Given as goal

abbrev pub invariant-loop-functions : goal.invariant-loop-functions
invariant-loop-functions l =
    set_states (map statistic_of l.initial.functions) l.initial.states l.initial.record
    ≡ set_states (map statistic_of l.functions) l.states l.record

abbrev pub decreases-loop-functions : goal.decreases-loop-functions
decreases-loop-functions l = length l.functions
