use Rattle.std.proofs.Common.{◌≡◌, ◌∙◌, ℕ, List, Bor, length, map, true, false, sym, ap, subst, arith}
use Rattle.std.proofs.lemmas.List.{length-map}
use Rattle.block_column.specs.Cells.{IsFirst}
use Rattle.block_model.specs.Distinct.{distinct}
use Rattle.block_column.specs.Kinds.{are_integers, fits_dictionary, integers_in}
use Rattle.block_column.specs.declared.cells.Cells.TheVariants as cells
use Rattle.block_column.proofs.KindLaws.{first-constant, first-integers, first-plain, sizes}
use Rattle.block_column.proofs.kinds.first_kind.Goals as goal

abbrev now_of : Bor (List ℕ) → List ℕ
now_of t = t.now

pub returns-in-Some-clause-texts : goal.returns-in-Some-clause-texts
returns-in-Some-clause-texts c =
    (first-constant (map now_of c.args.values.now) c.in_ok-try_of.field-0 (length c.args.values.now)
    c.in-Some.ensures.some.0 (c.in-Some.ensures.some.1 ∙ sym c.in_ok-try_of.ensures)
    (sym (length-map c.args.values.now now_of)) (omega (arith, sizes now_of c.args.values.now, c.requires))).0

pub returns-in-Some-clause-first : goal.returns-in-Some-clause-first
returns-in-Some-clause-first c =
    (first-constant (map now_of c.args.values.now) c.in_ok-try_of.field-0 (length c.args.values.now)
    c.in-Some.ensures.some.0 (c.in-Some.ensures.some.1 ∙ sym c.in_ok-try_of.ensures)
    (sym (length-map c.args.values.now now_of)) (omega (arith, sizes now_of c.args.values.now, c.requires))).1

pub returns-in-Some-2-clause-texts : goal.returns-in-Some-2-clause-texts
returns-in-Some-2-clause-texts c =
    let ts = map now_of c.args.values.now in
    let m : (are_integers ts ≡ true) × (c.in-Some-2.ints.items ≡ integers_in ts) = rw c.in-Some-2.is at
    c.in_ok-ints.ensures in
    (first-integers ts c.in_ok-try_of-2.field-0 c.in_default.ensures.none m.0
    (c.in_ok-try_of-2.ensures ∙ c.as_slice.ensures.value ∙ m.1)).0

pub returns-in-Some-2-clause-first : goal.returns-in-Some-2-clause-first
returns-in-Some-2-clause-first c =
    let ts = map now_of c.args.values.now in
    let m : (are_integers ts ≡ true) × (c.in-Some-2.ints.items ≡ integers_in ts) = rw c.in-Some-2.is at
    c.in_ok-ints.ensures in
    (first-integers ts c.in_ok-try_of-2.field-0 c.in_default.ensures.none m.0
    (c.in_ok-try_of-2.ensures ∙ c.as_slice.ensures.value ∙ m.1)).1

pub dictionary_of-requires-clause-none : goal.dictionary_of-requires-clause-none
dictionary_of-requires-clause-none c = rw c.in_default-2.is at c.in_ok-ints.ensures

pub dictionary_of-requires-clause-fits : goal.dictionary_of-requires-clause-fits
dictionary_of-requires-clause-fits c =
    let ts = map now_of c.args.values.now in
    let m : (fits_dictionary ts ≡ true) × (c.in-Some-3.texts.items ≡ distinct ts) = rw c.in-Some-3.is at
    c.in_ok-texts.ensures in
    m.0

pub dictionary_of-requires-clause-texts : goal.dictionary_of-requires-clause-texts
dictionary_of-requires-clause-texts c =
    let ts = map now_of c.args.values.now in
    let m : (fits_dictionary ts ≡ true) × (c.in-Some-3.texts.items ≡ distinct ts) = rw c.in-Some-3.is at
    c.in_ok-texts.ensures in
    c.as_slice-in-Some-3.ensures.value ∙ m.1

pub returns-clause-first : goal.returns-clause-first
returns-clause-first c =
    let ts = map now_of c.args.values.now in
    let none : are_integers ts ≡ false = rw c.in_default-2.is at c.in_ok-ints.ensures in
    let many : fits_dictionary ts ≡ false = rw c.in_default-3.is at c.in_ok-texts.ensures in
    subst (λ (l : List (List ℕ)). IsFirst (cells.Plain l)) (sym c.in_ok-try_of-3.ensures)
    (first-plain ts c.in_default.ensures.none none many)
