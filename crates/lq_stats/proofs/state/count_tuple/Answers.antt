use Rattle.std.proofs.Common.{◌≡◌, false, true, length}
use Rattle.std.proofs.lemmas.List.{length-map}
use Rattle.std.proofs.lemmas.Result.{on_ok_weaker}
use Rattle.log_model.specs.Field.{field_value}
use Rattle.lq_ast.specs.Statistics.{has_some}
use Rattle.lq_ast.specs.Tuples.{tuple_of}
use Rattle.lq_tuple.proofs.Counting.{counted_more}
use Rattle.lq_tuple.specs.Counted.{AreShort, tuple_text}
use Rattle.lq_stats.proofs.Taking.{none_has, some_has}
use Rattle.lq_stats.proofs.state.count_tuple.Goals as goal

pub returns-in_default : goal.returns-in_default
returns-in_default c = λ tuples h.
    let none : has_some c.args.names.now c.args.fields.now ≡ false =
    none_has c.in_ok-text.field-0 _ c.in_default.not-Some c.in_ok-text.ensures.filled in
    rw none h

pub returns : goal.returns
returns c = on_ok_weaker c.add.result
    (λ adds tuples h.
    let names = c.args.names.now in
    let tuple = tuple_of names c.args.fields.now in
    let has : has_some names c.args.fields.now ≡ true = some_has c.in-Some.text _
    (rw c.in-Some.is at c.in_ok-text.ensures.filled) in
    let short : AreShort tuple = rw c.in-Some.is at c.in_ok-text.ensures.short in
    let text : c.in-Some.text.now ≡ tuple_text tuple = rw c.in-Some.is at c.in_ok-text.ensures.text in
    rw has
    (counted_more c.args.texts.now c.add.new.self (length names) tuples tuple
    c.in-Some.text.now text (length-map names (field_value c.args.fields.now)) short adds h)) c.add.ensures
