use Rattle.std.proofs.Common.{◌∙◌, ap, sym}
use Rattle.block_format.specs.Reading.{has_spelling}
use Rattle.part_file.proofs.block_rows.BlockRows.rows.Goals as goal

pub returns-in_default : goal.returns-in_default
returns-in_default c = (rw c.in_default.is at c.in_ok-rows.ensures)

pub returns-then-not-branch : goal.returns-then-not-branch
returns-then-not-branch c =
    let said = (rw c.in-Some.is at c.in_ok-rows.ensures) in
    ap has_spelling (sym (c.as_slice.ensures.value ∙ said)) ∙ sym c.in_ok-are_block.ensures ∙ c.if-not-branch.true

pub returns : goal.returns
returns c =
    let said = (rw c.in-Some.is at c.in_ok-rows.ensures) in
    (said, ap has_spelling (sym c.as_slice.ensures.value) ∙ sym c.in_ok-are_block.ensures ∙ c.if-not-branch.false)
