use Rattle.std.proofs.Common.{◌≡◌, ◌∙◌, ◌++◌, List, ℕ, ap, subst, sym}
use Rattle.std.proofs.lemmas.Bool.{both_ways}
use Rattle.block_format.specs.Rows.{IsBlock}
use Rattle.block_format.specs.Spelling.{block_bytes}
use Rattle.block_format.proofs.ReadAgain.{writing-is}
use Rattle.part_file.proofs.ItemLaws.{never-written}
use Rattle.part_file.proofs.block_rows.put_rows.Goals as goal

pub returns-then-not-branch : goal.returns-then-not-branch
returns-then-not-branch c bytes written =
    let same : c.as_slice.result.now ≡ c.args.rows.now = c.as_slice.ensures.value ∙ c.in_ok-lent.ensures in
    absurd (never-written c.args.rows.now bytes (λ b. both_ways c.in_ok-is_block.field-0 c.if-not-branch.true
    (c.in_ok-is_block.ensures.1 (subst IsBlock (sym same) b))) written)

pub of_lent-requires : goal.of_lent-requires
of_lent-requires c =
    subst IsBlock (c.as_slice.ensures.value ∙ sym c.as_slice-2.ensures.value) (c.in_ok-is_block.ensures.0
    c.if-not-branch.false)

pub returns : goal.returns
returns c bytes written =
    let rows : c.in_ok-block.block ≡ c.args.rows.now = c.in_ok-block.ensures.rows ∙ c.as_slice-2.ensures.value
    ∙ c.in_ok-lent.ensures in
    c.in_ok-put.ensures.bytes ∙ ap (λ (l : List ℕ). c.args.out.now.items ++ l) (ap block_bytes rows
    ∙ sym (writing-is c.args.rows.now bytes written))
