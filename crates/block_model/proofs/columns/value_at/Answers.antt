use Rattle.std.proofs.Common.{◌≡◌, ◌∙◌, ◌<◌, List, ap, length, sym, true, rules}
use Rattle.std.proofs.lemmas.Slice.Eq.{bytes_eq-Decides}
use Rattle.std.specs.Map.{keys_of}
use Rattle.log_model.specs.Field.{Field, field_value}
use Rattle.block_model.proofs.FieldLaws.{IsRising, value-there}
use Rattle.block_model.proofs.columns.value_at.Goals as goal

pub returns : goal.returns
returns c =
    let lt : c.args.i < length c.as_slice-all.result.now = search rules in
    let yes : c.is_named.result ≡ true = search rules in
    let name : c.args.name.now ≡ c.index-all-i.result.0 =
    (bytes_eq-Decides c.args.name.now c.index-all-i.result.0).0 (sym c.is_named.ensures ∙ yes) in
    let rising : IsRising (keys_of c.as_slice-all.result.now) =
    rw c.as_slice-all.ensures.value c.as_slice-all.ensures.rules.ordered in
    c.value.ensures
    ∙ sym (value-there c.as_slice-all.result.now c.args.i c.index-all-i.result rising lt
    c.index-all-i.is)
    ∙ ap (field_value c.as_slice-all.result.now) (sym name)
    ∙ ap (λ (l : List Field). field_value l c.args.name.now) c.as_slice-all.ensures.value
