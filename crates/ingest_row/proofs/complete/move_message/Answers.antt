use Rattle.std.proofs.Common.{◌≡◌, ◌∙◌, ap, sym, List}
use Rattle.std.proofs.lemmas.Result.{on_ok_weaker}
use Rattle.log_model.specs.Field.{Field}
use Rattle.ingest_row.specs.Ingest.{moved}
use Rattle.ingest_row.proofs.Places.{chosen_none, chosen_some}
use Rattle.ingest_row.proofs.complete.move_message.Goals as goal

pub returns-in-Some : goal.returns-in-Some
returns-in-Some c =
    let names = c.args.o.now.message_fields in
    let fields = c.args.fields.now in
    let place = rw c.as_slice.ensures.value at c.message_place-place.ensures in
    on_ok_weaker c.rename.result
    (λ is. is ∙ ap (moved fields) c.as_str.ensures.value
    ∙ sym (chosen_some names fields c.message_place-place.result c.in-Some.name.now
    c.as_slice.ensures.rules place (rw c.message_fields-names.ensures at c.in-Some.ensures.lookup.3.0)
    (rw c.message_fields-names.ensures at c.in-Some.ensures.lookup.1)))
    c.rename.ensures

pub returns-in-None : goal.returns-in-None
returns-in-None c =
    let names = c.args.o.now.message_fields in
    let fields = c.args.fields.now in
    let place = rw c.as_slice.ensures.value at c.message_place-place.ensures in
    sym (chosen_none names fields c.message_place-place.result c.as_slice.ensures.rules place
    (rw c.message_fields-names.ensures at c.in-None.ensures.lookup.3))
