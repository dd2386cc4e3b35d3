use Rattle.std.proofs.Common.{rules}
use Rattle.std.proofs.lemmas.List.Sorted.{IsNonDecreasingBy-from_sort_by_key, answers_always}
use Rattle.part_store.specs.State.{day_part_of}
use Rattle.merge_plan.proofs.SortLaws.{rising-from, sorted-pieces}
use Rattle.merge_plan.proofs.pieces.pieces_by_day.Goals as goal

pub returns-clause-pieces : goal.returns-clause-pieces
returns-clause-pieces c =
    sorted-pieces day_part_of _ c.in_ok-pieces.pieces.items c.sort_by_key.new.self.items
    (c.in_ok-sort_by_key.ensures.stable (λ piece. piece.0) (answers_always _ _ _ (λ f a r g h. search rules)))
    c.in_ok-sort_by_key.ensures.permutation c.in_ok-pieces.ensures

pub returns-clause-rising : goal.returns-clause-rising
returns-clause-rising c =
    rising-from day_part_of c.sort_by_key.new.self.items
    (IsNonDecreasingBy-from_sort_by_key (λ piece. piece.0) _ c.in_ok-sort_by_key.ensures.sorted
    (λ a r q k. search rules))
