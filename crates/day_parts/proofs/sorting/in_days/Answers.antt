use Rattle.std.proofs.Common.{rules}
use Rattle.std.proofs.lemmas.List.Sorted.{IsNonDecreasingBy-from_sort_by_key}
use Rattle.day_parts.proofs.SortLaws.{stable-days}
use Rattle.day_parts.proofs.sorting.in_days.Goals as goal

pub returns-clause-sorted : goal.returns-clause-sorted
returns-clause-sorted c =
    IsNonDecreasingBy-from_sort_by_key (λ r. r.0) _ c.in_ok-sort_by_key.ensures.sorted (λ a r q k. search rules)

pub returns-clause-order : goal.returns-clause-order
returns-clause-order c =
    stable-days _ c.sort_by_key.new.self.items c.in_ok-sort_by_key.ensures.stable (λ a r q k. search rules)
