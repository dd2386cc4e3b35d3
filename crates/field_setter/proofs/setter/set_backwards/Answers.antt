use Rattle.std.proofs.Common.{arith, refl}
use Rattle.field_setter.proofs.Setting.{last_named, named_len, set_last, set_none}
use Rattle.vl_row.proofs.Sorted.{IsFieldList-nil}
use Rattle.field_setter.proofs.setter.set_backwards.Goals as goal

pub loop-field-init : goal.loop-field-init
loop-field-init c = record {
  target = rw c.in_ok-list.ensures refl;
  named = c.requires;
  rules = rw c.in_ok-list.ensures IsFieldList-nil;
}

pub add-requires : goal.add-requires
add-requires c =
    named_len c.in-Some.field (last_named c.pop.new.self.items c.loop-field.fields.items c.in-Some.field
    c.in-Some.ensures.items c.loop-field.invariant.named).1

pub loop-field-preserved : goal.loop-field-preserved
loop-field-preserved c = record {
  target = set_last c.loop-field.list c.add.new.self c.pop.new.self.items c.loop-field.fields.items _ c.in-Some.field
      c.in-Some.ensures.items c.loop-field.invariant.target c.in_ok-add.ensures.ok;
  named = (last_named c.pop.new.self.items c.loop-field.fields.items c.in-Some.field c.in-Some.ensures.items
      c.loop-field.invariant.named).0;
  rules = c.in_ok-add.ensures.rules;
}

pub returns-clause-value : goal.returns-clause-value
returns-clause-value c =
    set_none c.loop-field.list c.loop-field.fields.items _
    (omega (arith, c.in_default.ensures.cases.0, c.loop-field.fields.ok.0)) c.loop-field.invariant.target
