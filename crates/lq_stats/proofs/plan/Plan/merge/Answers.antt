use Rattle.std.proofs.Common.{length-append, map, subst, arith, List, [], ◌∷◌}
use Rattle.lq_stats.specs.Function.{statistic_of}
use Rattle.lq_stats.specs.Groups.{AskFewFields}
use Rattle.lq_stats.specs.Plan.{opening}
use Rattle.lq_stats.specs.declared.function.Function.{Function}
use Rattle.lq_stats.proofs.plan.Plan.merge.Goals as goal

all_ask_few : (functions : List Function) → AskFewFields (map statistic_of functions)
all_ask_few [] = tt
all_ask_few (f ∷ fs) = (f.few, all_ask_few fs)

pub returns-clause-taken : goal.returns-clause-taken
returns-clause-taken c = λ g before others p h k.
    let few = c.requires.few in
    let count = h.count in
    let count_more = k.count in
    let whole = length-append before others in
    record {
      count = omega arith;
      groups = c.in_ok-merge.ensures g.keys g.statistics (opening g.keys) before others
          (subst AskFewFields p.statistics (all_ask_few c.args.self.now.functions.items)) (omega arith) h.groups
          k.groups;
    }
