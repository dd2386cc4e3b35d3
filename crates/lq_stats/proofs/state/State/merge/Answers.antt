use Rattle.std.proofs.Common.{◌++◌, ◌∙◌, ap, length, subst, sym, arith}
use Rattle.std.proofs.lemmas.Result.{on_ok_weaker}
use Rattle.lq_ast.specs.Statistics.{values}
use Rattle.lq_tuple.proofs.Counting.{counted_joined}
use Rattle.lq_tuple.specs.Counted.{AreCounted}
use Rattle.lq_stats.proofs.Measuring.{measured_alike}
use Rattle.lq_stats.proofs.Taking.{counted_few, counts_joined, empty_few, empty_joined, filled_tuples, tuples_joined}
use Rattle.lq_stats.proofs.Taking.{values_both, values_joined}
use Rattle.lq_stats.specs.State.{AreTaken, state_call}
use Rattle.lq_stats.proofs.state.State.merge.Goals as goal

pub returns-in-Count-self-clause-taken : goal.returns-in-Count-self-clause-taken
returns-in-Count-self-clause-taken c = λ same names records others few bound h k.
    let one = subst (λ s. AreTaken names s records) c.in-Count-self.is h in
    let other = subst (λ s. AreTaken names s others) c.in-Count.is k in
    let whole = counts_joined names records others in
    let fewer = counted_few names records in
    let few_more = counted_few names others in
    omega (arith, c.saturating_add.ensures, one, other)

pub returns-in-CountEmpty-self-clause-taken : goal.returns-in-CountEmpty-self-clause-taken
returns-in-CountEmpty-self-clause-taken c = λ same names records others few bound h k.
    let one = subst (λ s. AreTaken names s records) c.in-CountEmpty-self.is h in
    let other = subst (λ s. AreTaken names s others) c.in-CountEmpty.is k in
    let whole = empty_joined names records others in
    let fewer = empty_few names records in
    let few_more = empty_few names others in
    omega (arith, c.saturating_add-in-CountEmpty-self.ensures, one, other)

pub returns-in_ok-merge-in-CountUniq-self-clause-taken : goal.returns-in_ok-merge-in-CountUniq-self-clause-taken
returns-in_ok-merge-in-CountUniq-self-clause-taken c = λ same names records others few bound h k.
    let one = subst (λ s. AreTaken names s records) c.in-CountUniq-self.is h in
    let other = subst (λ s. AreTaken names s others) c.in-CountUniq.is k in
    subst (AreCounted c.merge.new.self (length names)) (sym (tuples_joined names records others))
    (counted_joined c.in-CountUniq-self.texts c.in-CountUniq.others c.merge.new.self (length names)
    (filled_tuples names records) (filled_tuples names others) c.in_ok-merge-in-CountUniq-self.ensures one other)

pub returns-in-OfValues-self-clause-taken : goal.returns-in-OfValues-self-clause-taken
returns-in-OfValues-self-clause-taken c =
    let new = c.merge-in-OfValues-self.new.self in
    on_ok_weaker c.merge-in-OfValues-self.result
    (λ joins same names records others few bound h k.
    let one = subst (λ s. AreTaken names s records) c.in-OfValues-self.is h in
    let other = subst (λ s. AreTaken names s others) c.in-OfValues.is k in
    measured_alike new (values names records ++ values names others) (values names (records ++ others))
    (λ x. sym (values_joined x names records others))
    (joins (sym (ap state_call c.in-OfValues.is) ∙ same ∙ ap state_call c.in-OfValues-self.is) (values names records)
    (values names others) (values_both names records others few bound) one other))
    c.merge-in-OfValues-self.ensures.taken
