use Rattle.std.proofs.Common.{not, ap, ◌∙◌, rules}
use Rattle.std.proofs.lemmas.Fn.{filter_same}
use Rattle.std.specs.List.{filter}
use Rattle.log_model.specs.Field.{is_empty}
use Rattle.lq_plain.proofs.values.non_empty_values.Goals as goal

pub returns : goal.returns
returns c =
    filter_same _ (λ value. not (is_empty value)) _ (λ x b f k. search rules) _ _ c.retain.ensures.filtered
    ∙ ap (filter (λ value. not (is_empty value))) c.in_ok-made.ensures
