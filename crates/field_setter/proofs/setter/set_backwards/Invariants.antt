use Rattle.std.proofs.Common.{◌≡◌, reverse, vec_len, [], false}
use Rattle.std.specs.List.{list_any}
use Rattle.log_model.specs.Field.{IsFieldList, set_all}
use Rattle.vl_row.specs.Names.{is_unnamed}
use Rattle.field_setter.proofs.setter.set_backwards.Given as goal

abbrev pub invariant-loop-field : goal.invariant-loop-field
invariant-loop-field l = record {
  target : set_all l.list (reverse l.fields.items) ≡ set_all [] (reverse l.fn.fields.items);
  named : list_any is_unnamed l.fields.items ≡ false;
  rules : IsFieldList l.list;
}

abbrev pub decreases-loop-field : goal.decreases-loop-field
decreases-loop-field l = vec_len l.fields
