use Rattle.std.proofs.Common.{◌<◌, ◌∙◌, List, length, rules, subst, sym}
use Rattle.log_model.specs.History.{Numbered}
use Rattle.part_model.specs.Ends.{EndsBlock}
use Rattle.part_model.specs.Filling.{rows_in_blocks}
use Rattle.part_picks.proofs.EndLaws.{ahead-some, ends-ahead}
use Rattle.part_picks.proofs.TakeLaws.{some-rows}
use Rattle.part_picks.proofs.ends.block_end.Goals as goal

pub block_end-requires : goal.block_end-requires
block_end-requires c =
    let lent = c.as_slice-2.ensures.value ∙ c.in_ok-lent.ensures ∙ c.as_slice.ensures.value in
    subst (λ (l : List Numbered). 0 < length l) (sym lent) (ahead-some c.in_ok-rows.rows.items (rows_in_blocks
    c.args.queue.now.items) c.in_ok-rows.ensures (some-rows c.args.queue.now.items c.index-first.result.now c.requires
    c.index-first.ensures c.len-some.ensures.some))

pub returns : goal.returns
returns c =
    let lent = c.as_slice-2.ensures.value ∙ c.in_ok-lent.ensures ∙ c.as_slice.ensures.value in
    ends-ahead c.in_ok-rows.rows.items (rows_in_blocks c.args.queue.now.items) c.in_ok-end-2.end c.in_ok-rows.ensures
    (subst (λ (l : List Numbered). EndsBlock l c.in_ok-end-2.end) lent c.in_ok-end-2.ensures)
