use Rattle.std.proofs.Common.{◌∙◌, List, ap, sym}
use Rattle.log_model.specs.History.{Numbered}
use Rattle.block_format.specs.Rows.{are_ordered}
use Rattle.block_format.proofs.OrderLaws.{in-order-again, put-all, put-next, put_rows}
use Rattle.block_format.proofs.said.in_order.Goals as goal

pub returns-then-ordered : goal.returns-then-ordered
returns-then-ordered c =
    sym (in-order-again c.args.rows.items (ap are_ordered (sym c.as_slice.ensures.value) ∙ sym c.in_ok-ordered.ensures
    ∙ c.if-ordered.true))

pub loop-row-init : goal.loop-row-init
loop-row-init c =
    let rows : List Numbered = c.args.rows.items in
    ap (λ (l : List Numbered). put_rows rows l) c.in_ok-sorted.ensures.items ∙ put-all c.args.rows.items

pub loop-row-preserved : goal.loop-row-preserved
loop-row-preserved c =
    let rest : List Numbered = c.pop.new.self.items in
    let sorted : List Numbered = c.loop-row.sorted.items in
    let row : Numbered = c.in-Some.row in
    let place = (rw c.as_slice-in-Some.ensures.value at c.place_of-i.ensures.place) in
    ap (put_rows rest) (c.in_ok-insert.ensures.items ∙ sym place)
    ∙ sym (put-next c.pop.new.self.items c.in-Some.row c.loop-row.sorted.items)
    ∙ ap (λ (l : List Numbered). put_rows l sorted) (sym c.in-Some.ensures.items)
    ∙ c.loop-row.invariant
