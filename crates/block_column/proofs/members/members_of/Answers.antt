use Rattle.std.proofs.Common.{◌≡◌, ◌∙◌, ◌<◌, ◌≤◌, ◌^◌, ◌∷◌, ℕ, List, [], Bor, ap, arith, length, map, true}
use Rattle.std.specs.Prelude.{sum_by}
use Rattle.std.specs.List.{list_all}
use Rattle.std.proofs.lemmas.List.Sums.{sum_by-cons}
use Rattle.block_model.specs.Distinct.{distinct, is_short, text_at}
use Rattle.block_column.proofs.KindLaws.{sizes}
use Rattle.block_model.proofs.Same.{one-distinct, short-size}
use Rattle.block_column.proofs.members.members_of.Goals as goal

abbrev now_of : Bor (List ℕ) → List ℕ
now_of t = t.now

pub returns-in_ok-alone-in-Constant-clause-each : goal.returns-in_ok-alone-in-Constant-clause-each
returns-in_ok-alone-in-Constant-clause-each c =
    let each : 0 < c.in-Constant.field-1 = (rw c.in-Constant.is at c.requires.each) in
    let texts : map now_of c.in_ok-alone-in-Constant.alone.items ≡ c.in-Constant.text ∷ [] = c.in_ok-alone-in-Constant.ensures
    ∙ ap (λ (t : List ℕ). t ∷ []) c.as_str.ensures.value in
    rw (c.in-Constant.is, texts) (one-distinct c.in-Constant.text c.in-Constant.field-1 each)

pub returns-in_ok-alone-in-Constant-clause-small : goal.returns-in_ok-alone-in-Constant-clause-small
returns-in_ok-alone-in-Constant-clause-small c =
    let narrow : length c.in-Constant.text < 2 ^ 32 = (rw c.in-Constant.is at c.requires.narrow) in
    let texts : map now_of c.in_ok-alone-in-Constant.alone.items ≡ c.in-Constant.text ∷ [] = c.in_ok-alone-in-Constant.ensures
    ∙ ap (λ (t : List ℕ). t ∷ []) c.as_str.ensures.value in
    omega (
      arith,
      sizes now_of c.in_ok-alone-in-Constant.alone.items,
      ap (sum_by length) texts,
      sum_by-cons length c.in-Constant.text [],
      narrow,
    )

pub returns-in_ok-listed-in-Dictionary-clause-each : goal.returns-in_ok-listed-in-Dictionary-clause-each
returns-in_ok-listed-in-Dictionary-clause-each c =
    let each : c.in-Dictionary.texts ≡ distinct (map (text_at c.in-Dictionary.texts)
    c.in-Dictionary.field-1.items) = (rw c.in-Dictionary.is at c.requires.each) in
    let texts : map now_of c.in_ok-listed-in-Dictionary.listed.items ≡ c.in-Dictionary.texts = c.in_ok-listed-in-Dictionary.ensures
    in
    rw (c.in-Dictionary.is, texts) each

pub returns-in_ok-listed-in-Dictionary-clause-small : goal.returns-in_ok-listed-in-Dictionary-clause-small
returns-in_ok-listed-in-Dictionary-clause-small c =
    let narrow : (length c.in-Dictionary.texts ≤ 255) × (list_all is_short c.in-Dictionary.texts ≡ true) =
    (rw c.in-Dictionary.is at c.requires.narrow) in
    let texts : map now_of c.in_ok-listed-in-Dictionary.listed.items ≡ c.in-Dictionary.texts = c.in_ok-listed-in-Dictionary.ensures
    in
    omega (
      arith,
      sizes now_of c.in_ok-listed-in-Dictionary.listed.items,
      ap (sum_by length) texts,
      short-size c.in-Dictionary.texts narrow.1,
      narrow.0,
    )
