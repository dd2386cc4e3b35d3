use Rattle.std.proofs.Common.{rules}
use Rattle.lq_tuple.proofs.SameItems.{same_permuted}
use Rattle.lq_tuple.proofs.OrderFree.{same_evaluated, same_grouped, same_piped, same_top, same_uniq}
use Rattle.lq_tuple.proofs.order_free.order_law.Goals as goal

pub returns-clause-grouped : goal.returns-clause-grouped
returns-clause-grouped c = same_grouped

pub returns-clause-uniq : goal.returns-clause-uniq
returns-clause-uniq c = same_uniq

pub returns-clause-top : goal.returns-clause-top
returns-clause-top c = same_top

pub returns-clause-piped : goal.returns-clause-piped
returns-clause-piped c = λ stages xs ys e h. same_piped stages xs ys (search rules) h

pub returns-clause-permuted : goal.returns-clause-permuted
returns-clause-permuted c = same_permuted

pub returns-clause-evaluated : goal.returns-clause-evaluated
returns-clause-evaluated c = λ asked now xs ys e h. same_evaluated asked now xs ys (search rules) h
