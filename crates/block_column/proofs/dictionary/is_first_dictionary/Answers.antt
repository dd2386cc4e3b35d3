use Rattle.std.proofs.Common.{◌≡◌, ◌≤◌, ◌∙◌, ℕ, List, length, map, true, ap, sym, arith, rules}
use Rattle.std.specs.Prelude.{nat_eq}
use Rattle.std.specs.List.{list_all, list_any}
use Rattle.block_model.specs.Distinct.{code_of, distinct, is_short, text_at}
use Rattle.block_column.proofs.FirstLaws.{not-numbers, two-texts}
use Rattle.block_column.proofs.KindLaws.{first-dictionary}
use Rattle.block_column.proofs.Listed.{AreUsed, codes-are, held-distinct, held-fits}
use Rattle.block_model.proofs.Rising.{IsRising}
use Rattle.block_column.proofs.dictionary.is_first_dictionary.Goals as goal

pub are_made-requires : goal.are_made-requires
are_made-requires c = rw c.as_slice.ensures.value c.in_ok-texts.ensures

pub returns : goal.returns
returns c first =
    let rows = map (text_at c.args.held.now) c.args.codes.now.items in
    let good : c.are_made.result ≡ true = search rules in
    let rising : IsRising c.args.held.now = c.are_made.ensures.rising good in
    let short : list_all is_short c.args.held.now ≡ true = c.are_made.ensures.short good in
    let two : 2 ≤ length c.args.held.now = omega arith in
    let few : length c.args.held.now ≤ 255 = omega arith in
    let used : AreUsed (length c.args.held.now) c.args.codes.now.items =
    λ code lt. ap (list_any (nat_eq code)) (sym c.as_slice-2.ensures.value)
    ∙ c.in_ok-used.ensures first code (omega (arith, lt, c.len-2.ensures)) in
    let distinct_texts : c.args.held.now ≡ distinct (map (text_at c.args.held.now) c.args.codes.now.items) =
    held-distinct c.args.held.now c.args.codes.now.items rising c.requires used in
    let one = two-texts c.args.held.now rows distinct_texts two in
    let none = not-numbers c.args.held.now rows distinct_texts (c.are_made.ensures.numbers good) in
    let fits = held-fits c.args.held.now c.args.codes.now.items few short c.requires distinct_texts in
    let d = first-dictionary rows c.args.held.now c.args.codes.now.items one none fits distinct_texts (codes-are
    c.args.held.now c.args.codes.now.items rising c.requires) in
    record { codes = d.below; narrow = (d.few, d.short); each = d.each; kind = d.kind; body = d.body }
