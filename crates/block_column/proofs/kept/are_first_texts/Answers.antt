use Rattle.std.proofs.Common.{◌≡◌, ◌∙◌, ℕ, List, Bor, map, true, false, ap, subst, sym}
use Rattle.std.proofs.lemmas.List.Folds.{list_all-map}
use Rattle.block_column.specs.Cells.{IsFirst}
use Rattle.block_column.specs.Kinds.{are_integers, is_number, is_constant}
use Rattle.block_column.specs.declared.cells.Cells.TheVariants as cells
use Rattle.block_column.proofs.KindLaws.{first-plain}
use Rattle.block_column.proofs.kept.are_first_texts.Goals as goal

abbrev now_of : Bor (List ℕ) → List ℕ
now_of t = t.now

pub returns : goal.returns
returns c many =
    let ts = map now_of c.as_slice-texts.result.now in
    let none : are_integers (map now_of c.as_slice-texts.result.now) ≡ false = list_all-map is_number now_of
    c.as_slice-texts.result.now ∙ sym c.are_integers.ensures ∙ c.if-are_integers.false in
    let one : is_constant (map now_of c.as_slice-texts.result.now) ≡ false =
    rw c.in-None.is at c.constant.ensures.none in
    subst (λ (l : List (List ℕ)). IsFirst (cells.Plain l)) (ap (map now_of) c.as_slice-texts.ensures.value
    ∙ c.in_ok-lent.ensures) (first-plain (map now_of c.as_slice-texts.result.now) one none (c.in_ok-many.ensures.0 many))
