use Rattle.std.proofs.Common.{ap, sym, subst, ◌∙◌}
use Rattle.std.specs.Slice.{IsItemAt}
use Rattle.log_model.specs.Order.{key_cmp}
use Rattle.lq_order.specs.Column.{values_cmp}
use Rattle.lq_order.proofs.Columns.{read_cmp}
use Rattle.lq_order.proofs.values.Values.compare.Goals as goal

pub returns-in-Keys : goal.returns-in-Keys
returns-in-Keys c =
    let keys = c.in-Keys.keys in
    let at_a = subst (λ items. IsItemAt items c.args.a c.get.result) c.deref.ensures.value c.get.ensures.lookup in
    let at_b = subst (λ items. IsItemAt items c.args.b c.get-in-Keys.result) c.deref-in-Keys.ensures.value
    c.get-in-Keys.ensures.lookup in
    c.cmp-in-Keys.ensures ∙ read_cmp key_cmp keys.items c.args.a c.args.b c.get.result c.get-in-Keys.result at_a at_b
    ∙ ap (λ v. values_cmp v c.args.a c.args.b) (sym c.in-Keys.is)
