use Rattle.std.proofs.Common.{sym, arith}
use Rattle.lq_plain.proofs.Phrases.{rest_after_first, order_found, order_missing}
use Rattle.lq_plain.proofs.value.+are_in_order.Goals as goal

pub returns-then-are_in_order : goal.returns-then-are_in_order
returns-then-are_in_order t c =
    sym (order_found c.args.value.now c.args.phrases.now _ c.phrase-item.result c.as_str-phrase.result.now c.args.from
    c.in-len1-up.len_at_least c.phrase-item.is c.as_str-phrase.ensures.value (rest_after_first c.args.phrases.now)
    (sym c.if-is_empty.ensures)
    c.loop-place.place (omega arith) (omega arith) (sym c.if-stands_at.ensures) (sym c.if-are_in_order.ensures))

pub returns : goal.returns
returns t c =
    sym (order_missing c.args.value.now c.args.phrases.now _ c.phrase-item.result c.as_str-phrase.result.now c.args.from
    c.in-len1-up.len_at_least c.phrase-item.is c.as_str-phrase.ensures.value (rest_after_first c.args.phrases.now)
    (sym c.if-is_empty.ensures)
    c.loop-place.place (omega arith) c.loop-place.invariant)
