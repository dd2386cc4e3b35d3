use Rattle.std.proofs.Common.{◌∙◌, ℕ, List, Bor, ap, arith, length, map}
use Rattle.std.specs.Prelude.{sum_by}
use Rattle.block_column.proofs.KindLaws.{sizes}
use Rattle.block_column.proofs.kept.first_by_texts.Goals as goal

abbrev now_of : Bor (List ℕ) → List ℕ
now_of t = t.now

pub first_kind-requires : goal.first_kind-requires
first_kind-requires c =
    rw c.as_slice.ensures.value (omega (
      arith,
      sizes now_of c.in_ok-texts.texts.items,
      ap (sum_by length) (c.in_ok-texts.ensures ∙ c.in_ok-lent.ensures),
      c.requires.small,
    ))

pub returns-clause-texts : goal.returns-clause-texts
returns-clause-texts c =
    c.in_ok-made.ensures.texts ∙ ap (map now_of) c.as_slice.ensures.value ∙ c.in_ok-texts.ensures ∙ c.in_ok-lent.ensures
