use Rattle.lq_ast.specs.View.{condition}
use Rattle.lq_plain.specs.Subject.{subject_of}
use Rattle.lq_plain.proofs.Conditions.{all_met-list, some_met-list}
use Rattle.lq_plain.proofs.filter.+holding.Goals as goal

pub are_all_met-loop-filter-init : goal.are_all_met-loop-filter-init
are_all_met-loop-filter-init t c = all_met-list condition (subject_of c.args.subject.now) c.args.filters.now

pub is_some_met-loop-filter-init : goal.is_some_met-loop-filter-init
is_some_met-loop-filter-init t c = some_met-list condition (subject_of c.args.subject.now) c.args.filters.now
