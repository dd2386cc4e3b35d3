use Rattle.std.proofs.Common.{Result, Ok, Err, OnOk, OnErr, sym, ◌∙◌, ap}
use Rattle.log_model.specs.Field.{IsFieldList}
use Rattle.vl_row.proofs.Sorted.{IsFieldList-insert, IsFieldList-set, set-replaced}
use Rattle.vl_row.proofs.field.FieldList.put_field.Goals as goal
use Rattle.vl_row.proofs.field.FieldList.put_field.Goals.{After-insert_field}

pub invariant_of-self : goal.invariant_of-self
invariant_of-self c =
    let found = rw (c.as_slice.ensures.value, c.name.ensures) at c.in-Ok.ensures.found in
    let written = rw c.into_value.ensures at c.set_value.ensures in
    IsFieldList-set c.self.inside.fields.items c.args.field.0 c.args.field.1 c.in-Ok.i c.index_mut.result.now
    c.set_value.new.self found c.index_mut.ensures.value written c.self.invariant c.requires.named c.requires.filled

pub returns-in-Ok-clause-ok : goal.returns-in-Ok-clause-ok
returns-in-Ok-clause-ok c =
    let found = rw (c.as_slice.ensures.value, c.name.ensures) at c.in-Ok.ensures.found in
    let written = rw c.into_value.ensures at c.set_value.ensures in
    rw (← c.self.view_is)
    (set-replaced c.self.inside.fields.items c.args.field.0 c.args.field.1 c.in-Ok.i c.index_mut.result.now
    c.set_value.new.self found c.index_mut.ensures.value written)

pub returns-in-Ok-clause-rules : goal.returns-in-Ok-clause-rules
returns-in-Ok-clause-rules c = invariant_of-self c

either : {T E A B P : Type 0} (r : Result T E) → OnOk r A → OnErr r B → (A → P) → (B → P) → P
either (Ok x) a b f g = f a
either (Err e) a b f g = g b

inserted_rules : (c : After-insert_field) → IsFieldList c.insert_field.new.fields.items
inserted_rules c =
    let missing = rw (c.as_slice.ensures.value, c.name.ensures) at c.in-Err.ensures.missing in
    either c.insert_field.result c.insert_field.ensures.ok c.insert_field.ensures.err
    (λ e. rw e (IsFieldList-insert c.self.inside.fields.items c.args.field.0 c.args.field.1 c.in-Err.i c.self.invariant
    missing c.requires.named c.requires.filled))
    (λ e. rw e c.self.invariant)

pub invariant_of-self-in-Err : goal.invariant_of-self-in-Err
invariant_of-self-in-Err c = inserted_rules c

pub returns-in-Err-clause-rules : goal.returns-in-Err-clause-rules
returns-in-Err-clause-rules c = inserted_rules c
