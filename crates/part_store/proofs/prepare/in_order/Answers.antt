use Rattle.std.proofs.Common.{◌≡◌, ◌∙◌, List, [], ◌∷◌, ap, map, refl, subst, sym}
use Rattle.std.specs.List.{AllByRecursion}
use Rattle.std.specs.List.Sorted.{IsNonDecreasingBy, IsPermutation}
use Rattle.std.proofs.lemmas.List.Elements.{recursion_from_All}
use Rattle.std.proofs.lemmas.List.Sorted.{All-permutation, IsPermutation-map}
use Rattle.part_store.specs.Finds.{CanBeWritten, entry_of}
use Rattle.part_store.specs.Preparing.{IsPlaced, placed_part}
use Rattle.part_store.specs.State.{Listed}
use Rattle.part_store.specs.declared.catalog.Placed.{Placed}
use Rattle.part_store.proofs.Sorting.{rising_mapped}
use Rattle.part_store.proofs.prepare.in_order.Goals as goal

entries_are : (placed : List Placed) → AllByRecursion IsPlaced placed
    → map (λ (part : Placed). part.entry) placed ≡ map entry_of (map placed_part placed)
entries_are [] all = refl
entries_are (part ∷ placed) all = λ i. all.0.size i ∷ entries_are placed all.1 i

can_be_written : (placed : List Placed) → AllByRecursion IsPlaced placed
    → AllByRecursion CanBeWritten (map placed_part placed)
can_be_written [] all = tt
can_be_written (part ∷ placed) all = (all.0.written, can_be_written placed all.1)

pub returns-clause-same : goal.returns-clause-same
returns-clause-same c =
    subst (IsPermutation (map placed_part c.args.placed.items)) (sym (c.in_ok-parts.ensures.parts
    ∙ ap (map placed_part) c.deref.ensures.value))
    (IsPermutation-map placed_part c.args.placed.items c.in_ok-placed.placed.items c.in_ok-placed.ensures.same)

pub returns-clause-sorted : goal.returns-clause-sorted
returns-clause-sorted c =
    subst (IsNonDecreasingBy (λ (part : Listed). part.day)) (sym (c.in_ok-parts.ensures.parts
    ∙ ap (map placed_part) c.deref.ensures.value))
    (rising_mapped placed_part (λ (part : Listed). part.day) c.in_ok-placed.placed.items c.in_ok-placed.ensures.sorted)

pub returns-clause-entries : goal.returns-clause-entries
returns-clause-entries c =
    let all = recursion_from_All IsPlaced c.in_ok-placed.placed.items
    (All-permutation IsPlaced c.args.placed.items c.in_ok-placed.placed.items c.in_ok-placed.ensures.same c.requires) in
    c.in_ok-parts.ensures.entries ∙ ap (map (λ (part : Placed). part.entry)) c.deref.ensures.value
    ∙ entries_are c.in_ok-placed.placed.items all
    ∙ ap (map entry_of) (sym (c.in_ok-parts.ensures.parts ∙ ap (map placed_part) c.deref.ensures.value))

pub returns-clause-written : goal.returns-clause-written
returns-clause-written c =
    let all = recursion_from_All IsPlaced c.in_ok-placed.placed.items
    (All-permutation IsPlaced c.args.placed.items c.in_ok-placed.placed.items c.in_ok-placed.ensures.same c.requires) in
    subst (AllByRecursion CanBeWritten) (sym (c.in_ok-parts.ensures.parts ∙ ap (map placed_part) c.deref.ensures.value))
    (can_be_written c.in_ok-placed.placed.items all)
