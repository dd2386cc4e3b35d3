use Rattle.std.proofs.Common.{ap, ◌∙◌, rules}
use Rattle.std.proofs.lemmas.Fn.{dedup_same}
use Rattle.std.specs.List.{dedup}
use Rattle.std.specs.Ordering.{is_eq}
use Rattle.log_model.specs.Order.{value_cmp}
use Rattle.lq_plain.proofs.values.distinct.Goals as goal

pub returns : goal.returns
returns c =
    dedup_same _ (λ x y. is_eq (value_cmp x y)) _ (λ x y b f x' y' k. search rules) _ _ c.dedup_by.ensures.filtered
    ∙ ap (dedup (λ x y. is_eq (value_cmp x y))) c.in_ok-made.ensures
