use Rattle.std.proofs.Common.{◌∙◌, ap, subst}
use Rattle.std.specs.List.{filter_map}
use Rattle.log_model.specs.Order.{number_of, value_cmp}
use Rattle.lq_ast.specs.Statistics.{first_text, last_text}
use Rattle.lq_ast.specs.Tuples.{sorted_by}
use Rattle.lq_stats.proofs.Extremes.{greatest_joined, least_joined}
use Rattle.lq_stats.proofs.Measuring.{sum_joined}
use Rattle.lq_stats.specs.Measure.{AreMeasured, are_filled, greater, lesser, sum_of, with_sum}
use Rattle.lq_stats.proofs.measure.Measure.merge.Goals as goal

pub returns-in-Sum-self-clause-taken : goal.returns-in-Sum-self-clause-taken
returns-in-Sum-self-clause-taken c = λ same values more few h k.
    let sum = subst (λ m. AreMeasured m values) c.in-Sum-self.is h in
    let other = subst (λ m. AreMeasured m more) c.in-Sum.is k in
    c.with_sum.ensures ∙ ap (λ s. with_sum s c.in-Sum.more) sum
    ∙ ap (with_sum (sum_of (filter_map number_of values))) other ∙ sum_joined values more few

pub returns-in-Min-self-clause-taken : goal.returns-in-Min-self-clause-taken
returns-in-Min-self-clause-taken c = λ same values more few h k.
    let least = subst (λ m. AreMeasured m values) c.in-Min-self.is h in
    let other = subst (λ m. AreMeasured m more) c.in-Min.is k in
    c.take_lesser.ensures ∙ ap (λ l. lesser l c.in-Min.value) least
    ∙ ap (lesser (first_text (sorted_by value_cmp (are_filled values)))) other ∙ least_joined values more

pub returns-in-Max-self-clause-taken : goal.returns-in-Max-self-clause-taken
returns-in-Max-self-clause-taken c = λ same values more few h k.
    let greatest = subst (λ m. AreMeasured m values) c.in-Max-self.is h in
    let other = subst (λ m. AreMeasured m more) c.in-Max.is k in
    c.take_greater.ensures ∙ ap (λ g. greater g c.in-Max.value) greatest
    ∙ ap (greater (last_text (sorted_by value_cmp (are_filled values)))) other ∙ greatest_joined values more
