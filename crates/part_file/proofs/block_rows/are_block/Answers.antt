use Rattle.std.proofs.Common.{◌≡◌, ◌↔◌, ◌∙◌, IsTrue, List, subst, true}
use Rattle.std.specs.List.{AllByRecursion, list_all}
use Rattle.log_model.specs.History.{Numbered}
use Rattle.block_model.specs.Keys.{IsNumbered}
use Rattle.block_model.specs.Texts.{is_text_row}
use Rattle.block_format.specs.Rows.{IsBlock}
use Rattle.part_file.proofs.ItemLaws.{spelled-is}
use Rattle.part_file.proofs.block_rows.are_block.Goals as goal

pub returns : goal.returns
returns c =
    let first : c.as_slice.result.now ≡ c.args.rows.now = c.as_slice.ensures.value ∙ c.in_ok-lent.ensures in
    let second : c.as_slice-2.result.now ≡ c.args.rows.now = c.as_slice-2.ensures.value ∙ c.in_ok-lent.ensures in
    let third : c.as_slice-3.result.now ≡ c.args.rows.now = c.as_slice-3.ensures.value ∙ c.in_ok-lent.ensures in
    spelled-is c.in_ok-holds.holds c.args.rows.now (subst (λ (l : List Numbered). IsTrue c.in_ok-holds.holds ↔ IsBlock l)
    third c.in_ok-holds.ensures) (subst (AllByRecursion IsNumbered) first c.in_ok-row_keys.ensures.rules) (subst (λ (l
    : List Numbered). list_all is_text_row l ≡ true) second c.in_ok-column_names.ensures.texts)
