use Rattle.std.proofs.Common.{◌≡◌, length, map}
use Rattle.lq_ast.specs.Grouping.{all}
use Rattle.lq_tuple.specs.Groups.{keyed_group}
use Rattle.lq_stats.proofs.Finishing.{prepended}
use Rattle.lq_stats.specs.Finish.{made_record}
use Rattle.lq_stats.specs.Function.{statistic_of}
use Rattle.lq_stats.proofs.finish.records.Given as goal

abbrev pub invariant-loop-left : goal.invariant-loop-left
invariant-loop-left l =
    all (map (made_record (map (λ name. name.now) l.names) (map statistic_of l.functions))
    (map keyed_group l.initial.left))
    ≡ prepended l.records.items
    (all (map (made_record (map (λ name. name.now) l.names) (map statistic_of l.functions)) (map keyed_group l.left)))

abbrev pub decreases-loop-left : goal.decreases-loop-left
decreases-loop-left l = length l.left
