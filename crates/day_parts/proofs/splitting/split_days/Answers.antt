use Rattle.std.proofs.Common.{◌<◌, ◌∙◌, List, ap, length, subst, sym}
use Rattle.std.specs.List.{filter}
use Rattle.std.specs.List.Sorted.{IsPermutation}
use Rattle.std.proofs.lemmas.List.Sorted.{IsPermutation-sym}
use Rattle.log_model.specs.History.{Numbered}
use Rattle.day_model.specs.Days.{DayRows}
use Rattle.part_model.specs.Part.{IsPart}
use Rattle.day_parts.specs.Runs.{all_rows, is_day}
use Rattle.day_parts.proofs.DayLaws.{day-is, day-part}
use Rattle.day_parts.proofs.FlatLaws.{flat-permutation}
use Rattle.day_parts.proofs.RunLaws.{all-same}
use Rattle.day_parts.proofs.splitting.split_days.Goals as goal

pub day_parts-requires-clause-parts : goal.day_parts-requires-clause-parts
day_parts-requires-clause-parts c =
    λ day some.
    let same = ap (filter (is_day day)) c.as_slice.ensures.value ∙ c.in_ok-picks-2.ensures.order day in
    let rows = day-is day c.as_slice.result.now c.in_ok-picks.picks.items c.args.part.now same c.in_ok-picks.ensures.days
    (c.in_ok-picks.ensures.rows ∙ c.blocks-2.ensures.rows) in
    subst IsPart (sym rows) (day-part day c.args.part.now c.rules.ensures (subst (λ (l : List Numbered). 0 < length l) rows
    some))

pub returns-clause-rows : goal.returns-clause-rows
returns-clause-rows c =
    all-same c.as_slice.result.now c.args.part.now c.in_ok-days.days.items (λ day. day-is day c.as_slice.result.now
    c.in_ok-picks.picks.items c.args.part.now (ap (filter (is_day day)) c.as_slice.ensures.value
    ∙ c.in_ok-picks-2.ensures.order day) c.in_ok-picks.ensures.days (c.in_ok-picks.ensures.rows ∙ c.blocks-2.ensures.rows))
    c.in_ok-days.ensures.rows

pub returns-clause-same : goal.returns-clause-same
returns-clause-same c =
    let all = c.in_ok-days.ensures.all ∙ ap all_rows c.as_slice.ensures.value in
    subst (λ (l : List Numbered). IsPermutation l c.args.part.now) (sym all) (subst (IsPermutation (all_rows
    c.in_ok-picks-2.picks.items)) (c.in_ok-picks.ensures.rows ∙ c.blocks-2.ensures.rows) (IsPermutation-sym (all_rows
    c.in_ok-picks.picks.items) (all_rows c.in_ok-picks-2.picks.items) (flat-permutation (λ (r : DayRows). r.1)
    c.in_ok-picks.picks.items c.in_ok-picks-2.picks.items c.in_ok-picks-2.ensures.same)))
