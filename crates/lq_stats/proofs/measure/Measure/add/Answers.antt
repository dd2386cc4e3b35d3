use Rattle.std.proofs.Common.{◌∙◌, ap, subst, sym}
use Rattle.std.proofs.lemmas.Result.{on_ok_weaker}
use Rattle.lq_stats.proofs.Measuring.{filled_more, greatest_taken, least_taken, sum_taken}
use Rattle.lq_stats.specs.Measure.{are_filled, greater, lesser, with_number}
use Rattle.lq_stats.specs.Words.{AreWords}
use Rattle.lq_stats.proofs.measure.Measure.add.Goals as goal

pub returns-in-Sum-clause-taken : goal.returns-in-Sum-clause-taken
returns-in-Sum-clause-taken c = λ values few h.
    let value = c.args.value.now in
    let old = rw c.in-Sum.is at h in
    c.with_number.ensures ∙ ap (λ sum. with_number sum value) old ∙ sum_taken values value few

pub returns-in-Min-clause-taken : goal.returns-in-Min-clause-taken
returns-in-Min-clause-taken c = on_ok_weaker c.keep_least.result
    (λ kept values few h.
    let value = c.args.value.now in
    let old = rw c.in-Min.is at h in
    kept ∙ ap (λ least. lesser least value) old ∙ least_taken values value) c.keep_least.ensures

pub returns-in-Max-clause-taken : goal.returns-in-Max-clause-taken
returns-in-Max-clause-taken c = on_ok_weaker c.keep_greatest.result
    (λ kept values few h.
    let value = c.args.value.now in
    let old = rw c.in-Max.is at h in
    kept ∙ ap (λ greatest. greater greatest value) old ∙ greatest_taken values value) c.keep_greatest.ensures

pub returns-in-UniqValues-clause-taken : goal.returns-in-UniqValues-clause-taken
returns-in-UniqValues-clause-taken c = on_ok_weaker c.keep_word.result
    (λ kept values few h.
    let old = rw c.in-UniqValues.is at h in
    subst (AreWords c.keep_word.new.words) (sym (filled_more values c.args.value.now)) (kept (are_filled values) old))
    c.keep_word.ensures
