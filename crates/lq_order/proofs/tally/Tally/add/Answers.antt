use Rattle.std.proofs.Common.{◌≡◌, false, ap, refl, set, arith}
use Rattle.lq_ast.specs.Tuples.{is_wholly_empty, tuple_of}
use Rattle.lq_tuple.specs.Counted.{AreShort, tuple_text}
use Rattle.lq_order.proofs.Named.{none_empty, some_full, values_named}
use Rattle.lq_order.proofs.Tallying.{tallied_empty, tallied_new, tallied_old}
use Rattle.lq_order.proofs.tally.Tally.add.Goals as goal

pub returns-in_default : goal.returns-in_default
returns-in_default c = λ names records few h.
    tallied_empty c.args.self.now names records c.args.fields.now h _ refl refl refl
    (none_empty c.in_ok-text.field-0 _ c.in_default.not-Some c.in_ok-text.ensures.filled)

pub returns-then-place-len : goal.returns-then-place-len
returns-then-place-len c = λ names records few h.
    let tuple = tuple_of c.args.self.now.names.now c.args.fields.now in
    let short : AreShort tuple = rw c.in-Some.is at c.in_ok-text.ensures.short in
    let full : is_wholly_empty tuple ≡ false =
    some_full c.in-Some.text (is_wholly_empty tuple) (rw c.in-Some.is at c.in_ok-text.ensures.filled) in
    let text : c.in-Some.text.now ≡ tuple_text tuple = rw c.in-Some.is at c.in_ok-text.ensures.text in
    tallied_old c.args.self.now names records c.args.fields.now h short full c.in-Some.text.now text
    c.place.new.self c.in_ok-place.place c.in_ok-place.ensures _ c.index.result.now
    (omega (arith, c.if-place-len.true, c.len.ensures, c.args.self.now.hits.ok.0)) refl refl c.index.ensures
    (ap (set c.args.self.now.hits.items c.in_ok-place.place) c.saturating_add.ensures) few

pub returns-in_ok-push : goal.returns-in_ok-push
returns-in_ok-push c = λ names records few h.
    let tuple = tuple_of c.args.self.now.names.now c.args.fields.now in
    let short : AreShort tuple = rw c.in-Some.is at c.in_ok-text.ensures.short in
    let full : is_wholly_empty tuple ≡ false =
    some_full c.in-Some.text (is_wholly_empty tuple) (rw c.in-Some.is at c.in_ok-text.ensures.filled) in
    let text : c.in-Some.text.now ≡ tuple_text tuple = rw c.in-Some.is at c.in_ok-text.ensures.text in
    tallied_new c.args.self.now names records c.args.fields.now h short full c.in-Some.text.now text
    c.place.new.self c.in_ok-place.place c.in_ok-place.ensures _
    (omega (arith, c.if-place-len.false, c.len.ensures, c.args.self.now.hits.ok.0)) refl refl
    c.in_ok-push.ensures.items
    (values_named c.args.self.now.names.now c.args.fields.now c.as_slice.ensures.rules)
