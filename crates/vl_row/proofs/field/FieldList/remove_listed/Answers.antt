use Rattle.std.proofs.Common.{◌≡◌, filter, not, rules, ap, ◌∙◌}
use Rattle.std.proofs.lemmas.Fn.{filter_same}
use Rattle.log_model.specs.Field.{IsFieldList}
use Rattle.vl_row.specs.Names.{is_among}
use Rattle.vl_row.proofs.Sorted.{IsFieldList-filter}
use Rattle.vl_row.proofs.field.FieldList.remove_listed.Goals as goal
use Rattle.vl_row.proofs.field.FieldList.remove_listed.Goals.{After-retain}

kept : (c : After-retain)
    → c.retain.new.self.items ≡ filter (λ field. not (is_among c.args.names.now field.0)) c.self.inside.fields.items
kept c = filter_same _ (λ field. not (is_among c.args.names.now field.0)) _ (λ x b f' called. search rules)
    _ _ c.retain.ensures.filtered

pub returns-clause-value : goal.returns-clause-value
returns-clause-value c =
    kept c ∙ ap (λ fields. filter (λ field. not (is_among c.args.names.now field.0)) fields) c.self.view_is

in_rules : (c : After-retain) → IsFieldList c.retain.new.self.items
in_rules c =
    rw (kept c)
    (IsFieldList-filter (λ field. not (is_among c.args.names.now field.0)) c.self.inside.fields.items c.self.invariant)

pub invariant_of-self : goal.invariant_of-self
invariant_of-self c = in_rules c

pub returns-clause-rules : goal.returns-clause-rules
returns-clause-rules c = in_rules c
