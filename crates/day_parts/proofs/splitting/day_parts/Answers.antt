use Rattle.std.proofs.Common.{◌<◌, ◌∙◌, List, ap, arith, drop, length, subst, sym, take}
use Rattle.std.proofs.lemmas.List.{take_rest}
use Rattle.log_model.specs.History.{Numbered}
use Rattle.day_model.specs.Days.{DayRows}
use Rattle.part_model.specs.Part.{IsPart}
use Rattle.day_parts.specs.Runs.{EndsDay, all_rows, next_day}
use Rattle.day_parts.proofs.RunLaws.{AreSplit, next-is, run-part, split-more, split-start}
use Rattle.day_parts.proofs.splitting.day_parts.Goals as goal

pub loop-start-init : goal.loop-start-init
loop-start-init c =
    subst (AreSplit c.args.picks.now 0) (sym c.new-days.ensures.items) (split-start c.args.picks.now)

pub run_part-requires-clause-part : goal.run_part-requires-clause-part
run_part-requires-clause-part c =
    let count = c.run_end-count.result in
    let rest = take_rest c.args.picks.now c.loop-start.start in
    let ends = subst (λ (l : List DayRows). EndsDay l count) rest c.run_end-count.ensures in
    let same = run-part c.args.picks.now c.loop-start.start count c.loop-start.days.items c.loop-start.invariant
    c.requires.sorted ends in
    λ some. subst (λ (l : List DayRows). IsPart (all_rows (take count l))) (sym rest) (subst IsPart same
    (c.requires.parts (next_day (drop c.loop-start.start c.args.picks.now)) (subst (λ (l : List Numbered). 0 < length l) (sym
    same) (subst (λ (l : List DayRows). 0 < length (all_rows (take count l))) rest some))))

pub loop-start-preserved : goal.loop-start-preserved
loop-start-preserved c =
    let count = c.run_end-count.result in
    let rest = take_rest c.args.picks.now c.loop-start.start in
    let ends = subst (λ (l : List DayRows). EndsDay l count) rest c.run_end-count.ensures in
    split-more c.args.picks.now c.loop-start.start count c.loop-start.days.items c.push.new.self.items _
    c.loop-start.invariant c.requires.sorted ends (next-is (drop c.loop-start.start c.args.picks.now) c.index-rest-0.result
    _ rest (omega (arith, ends.some, ends.there))) (c.in_ok-part.ensures
    ∙ ap (λ (l : List DayRows). all_rows (take count l)) rest) c.in_ok-push.ensures.items
