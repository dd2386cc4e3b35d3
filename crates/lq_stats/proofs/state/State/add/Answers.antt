use Rattle.std.proofs.Common.{◌+◌, ◌-◌, ◌^◌, ◌||◌, ◌++◌, [], ◌∷◌, ◌∙◌, ap, cond, length, min, not, subst, sym, arith}
use Rattle.std.proofs.lemmas.Result.{on_ok_weaker}
use Rattle.std.specs.List.{filter}
use Rattle.lq_ast.specs.Statistics.{counted, has_some, values}
use Rattle.lq_ast.specs.Tuples.{tuple_of}
use Rattle.lq_stats.proofs.Measuring.{measured_alike}
use Rattle.lq_stats.proofs.Taking.{clipped, counted_few, counted_more, empty_few, empty_more, tuples_more}
use Rattle.lq_stats.proofs.Taking.{value_counts, values_few}
use Rattle.lq_tuple.specs.Counted.{AreCounted}
use Rattle.lq_stats.specs.State.{is_nil}
use Rattle.lq_stats.proofs.state.State.add.Goals as goal

pub returns-in-Count-clause-taken : goal.returns-in-Count-clause-taken
returns-in-Count-clause-taken c = λ records few h.
    let names = c.args.names.now in
    let r = c.args.fields.now in
    let old = rw c.in-Count.is at h in
    let small = counted_few names records in
    c.with_one.ensures ∙ ap (λ t. min (c.in-Count.number + cond t 1 0) (2 ^ 64 - 1)) c.is_counted.ensures
    ∙ ap (λ n. min (n + cond (is_nil names || has_some names r) 1 0) (2 ^ 64 - 1)) old
    ∙ clipped (counted names records) (is_nil names || has_some names r) (omega arith)
    ∙ sym (counted_more names records r)

pub returns-in-CountEmpty-clause-taken : goal.returns-in-CountEmpty-clause-taken
returns-in-CountEmpty-clause-taken c = λ records few h.
    let names = c.args.names.now in
    let r = c.args.fields.now in
    let old = rw c.in-CountEmpty.is at h in
    let small = empty_few names records in
    c.with_one-in-CountEmpty.ensures ∙ ap (λ t. min (c.in-CountEmpty.number + cond (not t) 1 0) (2 ^ 64 - 1))
    c.has_some.ensures
    ∙ ap (λ n. min (n + cond (not (has_some names r)) 1 0) (2 ^ 64 - 1)) old
    ∙ clipped (length (filter (λ s. not (has_some names s)) records)) (not (has_some names r)) (omega arith)
    ∙ sym (empty_more names records r)

pub returns-in-CountUniq-clause-taken : goal.returns-in-CountUniq-clause-taken
returns-in-CountUniq-clause-taken c = on_ok_weaker c.count_tuple.result
    (λ kept records few h.
    let names = c.args.names.now in
    let old = rw c.in-CountUniq.is at h in
    subst (AreCounted c.count_tuple.new.texts (length names)) (sym (tuples_more names records c.args.fields.now))
    (kept _ old)) c.count_tuple.ensures

pub returns-in-OfValues-clause-taken : goal.returns-in-OfValues-clause-taken
returns-in-OfValues-clause-taken c = on_ok_weaker c.add_values.result
    (λ kept records few h.
    let names = c.args.names.now in
    let r = c.args.fields.now in
    let old = rw c.in-OfValues.is at h in
    let small = values_few names records few in
    measured_alike c.add_values.new.measure (values names records ++ tuple_of names r) (values names (records ++ r ∷ []))
    (λ x. sym (value_counts x names records r))
    (kept (values names records) (omega (arith, c.requires.few)) old)) c.add_values.ensures.taken
