use Rattle.merge_plan.proofs.GroupLaws.{youngest-lies}
use Rattle.merge_plan.proofs.group.begin.Goals as goal

pub of-requires : goal.of-requires
of-requires c = youngest-lies _ _ _ c.in-Some.ensures.some c.requires.days
