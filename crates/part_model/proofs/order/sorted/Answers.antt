use Rattle.std.proofs.Common.{rules}
use Rattle.part_model.proofs.OrderLaws.{closure-sorted}
use Rattle.part_model.proofs.order.sorted.Goals as goal

pub returns-clause-sorted : goal.returns-clause-sorted
returns-clause-sorted c =
    closure-sorted c.sort_by.new.self.items c.in_ok-sort_by.ensures.sorted (λ a o f called. search rules)
