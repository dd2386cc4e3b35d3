use Rattle.std.proofs.Common.{◌≤◌, ◌∙◌, List, ap, rules, subst, sym}
use Rattle.log_model.specs.History.{Numbered}
use Rattle.log_model.specs.Row.{batch_limit}
use Rattle.part_model.specs.Filling.{rows_in_blocks}
use Rattle.part_model.specs.Part.{rows_weight}
use Rattle.part_file.proofs.HoldLaws.{holds-part}
use Rattle.part_file.proofs.part.Part.of_sorted.Goals as goal

pub weight_of-weight-requires : goal.weight_of-weight-requires
weight_of-weight-requires c =
    subst (λ (l : List Numbered). rows_weight l ≤ batch_limit) (sym (ap rows_in_blocks c.as_slice.ensures.value
    ∙ c.in_ok-blocks.ensures.all)) c.requires.rules.light

pub invariant_of-result : goal.invariant_of-result
invariant_of-result c =
    holds-part c.in_ok-blocks.blocks.items c.args.rows.now _ _ c.requires c.in_ok-blocks.ensures (search rules)
    (c.weight_of-weight.ensures ∙ ap (λ (l : List (List Numbered)). rows_weight (rows_in_blocks l)) c.as_slice.ensures.value)
