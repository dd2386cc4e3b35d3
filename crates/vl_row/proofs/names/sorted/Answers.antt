use Rattle.std.proofs.Common.{rules}
use Rattle.vl_row.proofs.Listed.{sorted_by_closure}
use Rattle.vl_row.proofs.names.sorted.Goals as goal

pub returns-clause-order : goal.returns-clause-order
returns-clause-order c =
    sorted_by_closure c.sort_by.new.self.items c.in_ok-sort_by.ensures.sorted (λ a o f called. search rules)
