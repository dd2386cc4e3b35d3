use Rattle.std.proofs.Common.{◌≡◌, ◌∙◌, ℕ, List, Bor, ap, arith, length, map}
use Rattle.std.specs.Prelude.{sum_by}
use Rattle.block_model.proofs.Same.{short-size}
use Rattle.block_column.proofs.KindLaws.{sizes}
use Rattle.block_column.proofs.kinds.held_texts.Goals as goal

abbrev now_of : Bor (List ℕ) → List ℕ
now_of t = t.now

pub try_of-requires : goal.try_of-requires
try_of-requires c =
    rw c.as_slice.ensures.value (omega (
      arith,
      sizes now_of c.in_ok-listed.listed.items,
      ap (sum_by length) c.in_ok-listed.ensures,
      short-size c.args.texts.now c.requires.short,
      c.requires.few,
    ))

pub returns : goal.returns
returns c = c.in_ok-held.ensures ∙ ap (map now_of) c.as_slice.ensures.value ∙ c.in_ok-listed.ensures
