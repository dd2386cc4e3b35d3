use Rattle.std.proofs.Common.{subst}
use Rattle.part_model.specs.Part.{ArePartRows}
use Rattle.part_file_tests.proofs.part_tests.part_of.Goals as goal

pub try_of-requires : goal.try_of-requires
try_of-requires c =
    subst ArePartRows c.as_slice.ensures.value (c.in_ok-are_part_rows.ensures.0 c.if-not-branch.false)
