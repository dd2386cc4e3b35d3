use Rattle.std.proofs.Common.{◌∙◌, sym}
use Rattle.byte_format.proofs.Spellings.{reading-only}
use Rattle.part_file.specs.Again.{is_read_again}
use Rattle.part_file.specs.Format.{part, part_writing}
use Rattle.part_file.proofs.by_blocks.read_part.Goals as goal

pub returns-in-Ok-Some-clause-only : goal.returns-in-Ok-Some-clause-only
returns-in-Ok-Some-clause-only c rows written =
    sym (is_read_again rows c.args.bytes.now written) ∙ is_read_again c.in-Ok-Some.part c.args.bytes.now (rw
    c.in-Ok-Some.field-0-is at c.in-Ok-Some.ensures)

pub returns-in-Ok-Some-clause-exact : goal.returns-in-Ok-Some-clause-exact
returns-in-Ok-Some-clause-exact c =
    reading-only part part_writing c.args.bytes.now c.in-Ok-Some.part is_read_again (rw c.in-Ok-Some.field-0-is at
    c.in-Ok-Some.ensures)
