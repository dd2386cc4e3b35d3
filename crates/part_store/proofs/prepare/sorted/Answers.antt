use Rattle.std.proofs.Common.{rules, ◌∙◌, ap, map, sym}
use Rattle.std.proofs.lemmas.List.Sorted.{IsNonDecreasingBy-from_sort, answers_always}
use Rattle.part_store.specs.Preparing.{placed_part}
use Rattle.part_store.specs.State.{is_day}
use Rattle.part_store.specs.declared.catalog.Placed.{Placed}
use Rattle.part_store.proofs.Sorting.{filter_mapped, same_of_each}
use Rattle.part_store.proofs.prepare.sorted.Goals as goal

pub returns-clause-by_day : goal.returns-clause-by_day
returns-clause-by_day c = λ day.
    let key = λ (part : Placed). part.entry.day in
    let old = c.args.placed.items in
    let new = c.sort_by_key.new.self.items in
    let stable = c.in_ok-sort_by_key.ensures.stable key (answers_always _ _ _ (λ f a r g h. search rules)) in
    filter_mapped placed_part (is_day day) new
    ∙ ap (map placed_part) (same_of_each key old new stable day)
    ∙ sym (filter_mapped placed_part (is_day day) old)

pub returns-clause-sorted : goal.returns-clause-sorted
returns-clause-sorted c =
    let key = λ (part : Placed). part.entry.day in
    IsNonDecreasingBy-from_sort key c.sort_by_key.new.self.items
    (c.in_ok-sort_by_key.ensures.sorted key (answers_always _ _ _ (λ f a r g h. search rules)))
