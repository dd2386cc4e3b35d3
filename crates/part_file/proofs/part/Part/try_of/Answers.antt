use Rattle.std.proofs.Common.{◌∙◌, subst, sym}
use Rattle.part_model.specs.Part.{ArePartRows}
use Rattle.part_file.proofs.HoldLaws.{permuted-to}
use Rattle.part_file.proofs.part.Part.try_of.Goals as goal

pub of_lent-requires : goal.of_lent-requires
of_lent-requires c = subst ArePartRows (sym (c.in_ok-lent.ensures ∙ c.as_slice.ensures.value)) c.requires

pub returns : goal.returns
returns c =
    permuted-to c.in_ok-part.part c.in_ok-lent.lent.items c.args.rows.items c.in_ok-part.ensures (c.in_ok-lent.ensures
    ∙ c.as_slice.ensures.value)
