use Rattle.std.proofs.Common.{◌≡◌, ◌∙◌, ap, List}
use Rattle.std.proofs.lemmas.Result.{IfOk-weaker}
use Rattle.log_model.specs.Field.{Field, set_all}
use Rattle.ingest_row.proofs.Adding.{added_is}
use Rattle.ingest_row.proofs.Merging.{apart_is}
use Rattle.ingest_row.proofs.complete.add_fields.Goals as goal

pub merged-requires : goal.merged-requires
merged-requires c =
    rw c.remove_listed.ensures.value (apart_is c.args.fields c.args.o.now.extra_fields c.added-added.result.now
    c.replaced.result.now c.extra_fields.ensures.named c.added-added.ensures c.replaced.ensures)

pub returns-then-len-gt-FEW : goal.returns-then-len-gt-FEW
returns-then-len-gt-FEW c =
    IfOk-weaker c.merged.result _ _
    (λ all is. is ∙ ap (λ (l : List Field). set_all l c.added-added.result.now) c.remove_listed.ensures.value
    ∙ added_is c.args.fields c.args.o.now.extra_fields c.added-added.result.now c.replaced.result.now
    c.remove_listed.ensures.before c.extra_fields.ensures.named c.added-added.ensures c.replaced.ensures)
    c.merged.ensures

pub returns : goal.returns
returns c =
    c.in_ok-set_each.ensures
    ∙ ap (set_all c.remove_listed.new.self) c.as_slice.ensures.value
    ∙ ap (λ (l : List Field). set_all l c.added-added.result.now) c.remove_listed.ensures.value
    ∙ added_is c.args.fields c.args.o.now.extra_fields c.added-added.result.now c.replaced.result.now
    c.remove_listed.ensures.before c.extra_fields.ensures.named c.added-added.ensures c.replaced.ensures
