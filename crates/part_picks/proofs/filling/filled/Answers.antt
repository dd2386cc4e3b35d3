use Rattle.std.proofs.Common.{◌≡◌, ◌∙◌, [], List, ap, length, rules, subst, sym}
use Rattle.log_model.specs.History.{Numbered}
use Rattle.block_format.specs.Rows.{IsBlock}
use Rattle.part_model.specs.Filling.{rows_in_blocks}
use Rattle.part_model.proofs.FillLaws.{fill-start, first-block}
use Rattle.part_picks.proofs.FillLaws.{IsLeft, fill-end, fill-next, left-shorter}
use Rattle.part_picks.proofs.filling.filled.Goals as goal

pub loop-alloc-init : goal.loop-alloc-init
loop-alloc-init c =
    let rows = rows_in_blocks c.args.picks.now in
    subst (λ (b : List (List Numbered)). IsLeft b (rows_in_blocks c.in_ok-queue.queue.items) rows) (sym
    c.new-blocks.ensures.items) (subst (λ (l : List Numbered). IsLeft [] l rows) (sym (ap rows_in_blocks
    c.in_ok-queue.ensures)) (record {
      filled = fill-start rows;
      ordered = record { ordered = c.requires.ordered; apart = c.requires.rules.apart };
    }))

pub block_of-requires : goal.block_of-requires
block_of-requires c =
    subst IsBlock (sym (ap rows_in_blocks c.as_slice.ensures.value ∙ c.in_ok-rows.ensures.taken)) (first-block
    (rows_in_blocks c.loop-alloc.queue.items) c.in_ok-end.end c.loop-alloc.invariant.ordered c.in_ok-end.ensures)

pub loop-alloc-preserved : goal.loop-alloc-preserved
loop-alloc-preserved c =
    fill-next c.loop-alloc.blocks.items c.push.new.self.items c.in_ok-block.block (rows_in_blocks c.loop-alloc.queue.items)
    (rows_in_blocks c.take_rows.new.queue.items) (rows_in_blocks c.args.picks.now) (rows_in_blocks c.as_slice.result.now)
    c.in_ok-end.end c.loop-alloc.invariant c.in_ok-end.ensures (ap rows_in_blocks c.as_slice.ensures.value
    ∙ c.in_ok-rows.ensures.taken) c.in_ok-block.ensures c.in_ok-rows.ensures.left c.in_ok-push.ensures.items

pub loop-alloc-smaller : goal.loop-alloc-smaller
loop-alloc-smaller c =
    left-shorter (rows_in_blocks c.loop-alloc.queue.items) (rows_in_blocks c.take_rows.new.queue.items) c.in_ok-end.end
    c.in_ok-rows.ensures.left c.in_ok-end.ensures

pub returns : goal.returns
returns c =
    let none : length c.loop-alloc.queue.items ≡ 0 = search rules in
    fill-end c.loop-alloc.blocks.items c.loop-alloc.queue.items (rows_in_blocks c.args.picks.now) none
    c.loop-alloc.invariant
