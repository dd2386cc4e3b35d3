use Rattle.std.proofs.Common.{◌≡◌, ◌∙◌, ap, false, subst, sym}
use Rattle.std.proofs.lemmas.Bool.{both_ways}
use Rattle.block_format.specs.Reading.{has_spelling, rows_said}
use Rattle.block_format.specs.Rows.{IsBlock}
use Rattle.block_format.proofs.ReadAgain.{is-none}
use Rattle.block_format.proofs.TestLaws.{not-block}
use Rattle.block_reading.proofs.read.block_by_rows.Goals as goal

pub returns-in_default-clause-none : goal.returns-in_default-clause-none
returns-in_default-clause-none c =
    is-none (rows_said c.args.parts.now) (rw c.in_default.is at c.in_ok-rows.ensures)

pub returns-then-not-branch-clause-none : goal.returns-then-not-branch-clause-none
returns-then-not-branch-clause-none c =
    let said = (rw c.in-Some.is at c.in_ok-rows.ensures) in
    let same : c.as_slice-2.result.now ≡ rows_said c.args.parts.now = c.as_slice-2.ensures.value ∙ c.in_ok-lent.ensures
    ∙ c.as_slice.ensures.value ∙ said in
    is-none (rows_said c.args.parts.now) (ap has_spelling (sym same) ∙ not-block c.as_slice-2.result.now (λ b. both_ways
    c.in_ok-is_block.field-0 c.if-not-branch.true (c.in_ok-is_block.ensures.1 b)))

pub of_lent-requires : goal.of_lent-requires
of_lent-requires c =
    subst IsBlock (c.as_slice-2.ensures.value ∙ sym c.as_slice-3.ensures.value) (c.in_ok-is_block.ensures.0
    c.if-not-branch.false)

pub returns-clause-some : goal.returns-clause-some
returns-clause-some c =
    let said = (rw c.in-Some.is at c.in_ok-rows.ensures) in
    c.in_ok-made.ensures.rows ∙ c.as_slice-3.ensures.value ∙ c.in_ok-lent.ensures ∙ c.as_slice.ensures.value ∙ said
