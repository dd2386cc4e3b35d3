use Rattle.std.proofs.Common.{◌∙◌, subst, sym}
use Rattle.part_model.specs.Part.{IsPart}
use Rattle.part_model.proofs.PartLaws.{part-sorted}
use Rattle.part_file.proofs.HoldLaws.{permuted-back}
use Rattle.part_file.proofs.part.Part.of_lent.Goals as goal

pub of_sorted-requires : goal.of_sorted-requires
of_sorted-requires c =
    subst IsPart (sym c.as_slice.ensures.value) (part-sorted _ c.in_ok-rows.rows.items c.requires
    c.in_ok-rows.ensures.same c.in_ok-rows.ensures.sorted)

pub returns : goal.returns
returns c =
    permuted-back _ c.in_ok-rows.rows.items c.in_ok-part.part c.in_ok-rows.ensures.same (c.in_ok-part.ensures
    ∙ c.as_slice.ensures.value)
