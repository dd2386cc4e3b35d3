use Rattle.std.proofs.Common.{◌≡◌, ◌∙◌, ◌+◌, ◌++◌, List, ap, arith, length, map, refl, subst, sym, Global}
use Rattle.std.specs.List.{filter}
use Rattle.std.specs.List.Sorted.{IsPermutation}
use Rattle.std.proofs.lemmas.List.{length-map}
use Rattle.part_store.specs.Preparing.{parts_of, placed_part}
use Rattle.part_store.specs.State.{Listed, added, day_part_of, is_day, kept, listed_of}
use Rattle.part_store.proofs.Rules.{list_rules}
use Rattle.part_store.proofs.Preparing.{are_after, next_whole}
use Rattle.part_store.proofs.prepare.prepare.Goals as goal

pub spell_list-requires : goal.spell_list-requires
spell_list-requires c =
    let old = c.args.old.now in
    let new = map day_part_of c.args.new.now in
    let before = c.args.catalog.now in
    let after = map listed_of c.in_ok-parts.parts.items in
    let are : map placed_part c.add_parts.new.placed.items ≡ kept old
    (parts_of before) ++ added before.list.next_file new =
    c.in_ok-add_parts.ensures.parts ∙ ap (λ (ps : List Listed). ps ++ added before.list.next_file new)
    c.in_ok-placed.ensures.parts in
    let same = subst (λ (ps : List Listed). IsPermutation ps after) are c.in_ok-parts.ensures.same in
    let whole = next_whole old new before.list (parts_of before) c.requires.whole c.requires.room after same
    (λ day. c.in_ok-parts.ensures.by_day day ∙ ap (filter (is_day day)) are) c.in_ok-parts.ensures.sorted c.args.front
    c.requires.front c.requires.days c.in_ok-parts.ensures.written c.of.result (c.of.ensures
    ∙ c.in_ok-parts.ensures.entries)
    (before.list.next_file + length c.args.new.now)
    (ap (λ n. before.list.next_file + n) (sym (length-map c.args.new.now (day_part_of {P = Global})))) in
    list_rules _ after whole (omega arith)

pub returns : goal.returns
returns c =
    let old = c.args.old.now in
    let new = map day_part_of c.args.new.now in
    let before = c.args.catalog.now in
    let after = map listed_of c.in_ok-parts.parts.items in
    let are : map placed_part c.add_parts.new.placed.items ≡ kept old
    (parts_of before) ++ added before.list.next_file new =
    c.in_ok-add_parts.ensures.parts ∙ ap (λ (ps : List Listed). ps ++ added before.list.next_file new)
    c.in_ok-placed.ensures.parts in
    let same = subst (λ (ps : List Listed). IsPermutation ps after) are c.in_ok-parts.ensures.same in
    let files = ap (λ n. before.list.next_file + n) (sym (length-map c.args.new.now (day_part_of {P = Global}))) in
    record {
      whole = next_whole old new before.list (parts_of before) c.requires.whole c.requires.room after same
          (λ day. c.in_ok-parts.ensures.by_day day ∙ ap (filter (is_day day)) are) c.in_ok-parts.ensures.sorted
          c.args.front
          c.requires.front c.requires.days c.in_ok-parts.ensures.written c.of.result (c.of.ensures
          ∙ c.in_ok-parts.ensures.entries)
          (before.list.next_file + length c.args.new.now) files;
      after = are_after old new before.list (parts_of before) c.requires.whole c.requires.room after same
          (λ day. c.in_ok-parts.ensures.by_day day ∙ ap (filter (is_day day)) are) c.in_ok-parts.ensures.sorted;
      generation = refl;
      front_is = refl;
      next_file = files;
      body = c.in_ok-body.ensures;
      files = c.in_ok-files.ensures.files;
    }
