use Rattle.std.proofs.Common.{◌+◌, ◌++◌, ◌<◌, ◌∙◌, List, ap, drop, length, rules, sym}
use Rattle.log_model.specs.History.{Numbered}
use Rattle.part_model.specs.Filling.{rows_in_blocks}
use Rattle.part_picks.proofs.EndLaws.{ahead-many}
use Rattle.part_picks.proofs.TakeLaws.{rows-more, rows-parts}
use Rattle.part_picks.proofs.ends.rows_ahead.Goals as goal

pub returns-then-len-gt-MAX_ROWS : goal.returns-then-len-gt-MAX_ROWS
returns-then-len-gt-MAX_ROWS c =
    let queue = c.args.queue.now.items in
    let i = c.loop-i.i in
    let lt : i < length queue = search rules in
    let many : 4096 < length c.copy_rows.new.rows.items = search rules in
    ahead-many c.copy_rows.new.rows.items (rows_in_blocks (drop (i + 1) queue)) (rows_in_blocks queue)
    (ap (λ (l : List Numbered). l ++ rows_in_blocks (drop (i + 1) queue)) (c.in_ok-copy_rows.ensures
    ∙ ap (λ (l : List Numbered). l ++ c.index.result.now) c.loop-i.invariant
    ∙ sym (rows-more queue i c.index.result.now lt c.index.ensures)) ∙ rows-parts queue (i + 1))
    many
