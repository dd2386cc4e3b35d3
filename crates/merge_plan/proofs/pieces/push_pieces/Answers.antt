use Rattle.std.proofs.Common.{◌≡◌, ◌<◌, ◌++◌, ◌∙◌, List, ap, arith, length, map, sym, subst}
use Rattle.std.specs.List.{AllByRecursion}
use Rattle.std.proofs.lemmas.Iterator.Adapters.{YieldsList-from_vec}
use Rattle.std.proofs.lemmas.Iterator.Consumers.{YieldsList-end}
use Rattle.day_parts.specs.declared.splitting.DayPart.{DayPart}
use Rattle.part_store.specs.State.{day_part_of}
use Rattle.merge_plan.specs.Grouping.{split_rows}
use Rattle.merge_plan.proofs.PieceLaws.{map-same, split-are}
use Rattle.merge_plan.proofs.pieces.push_pieces.Goals as goal

pub returns : goal.returns
returns c =
    let days : List DayPart = c.in_ok-day-items.day-items.items in
    let gives = c.into_iter-day-iterator.ensures.into_iter_gives in
    let t = YieldsList-end (YieldsList-from_vec {s = c.into_iter-day-iterator.result} days gives.0
    (omega (arith, gives.1, c.in_ok-day-items.day-items.ok.0))) c.loop-day.yielded c.loop-day.day-iterator
    c.loop-day.yielded_by c.next.result c.next.new.self c.in-None.is c.next.ensures.steps in
    let all : c.loop-day.yielded ≡ days = sym (map-same c.loop-day.yielded) ∙ t.0 in
    let clauses = c.in_ok-day-items.ensures in (
      map split_rows days,
      c.loop-day.invariant.0
          ∙ ap (λ (l : List DayPart). map day_part_of c.args.pieces.now.items ++ map split_rows l) all,
      split-are c.args.batch.now days clauses.days clauses.rows clauses.same
          (subst (AllByRecursion (λ (d : DayPart). 0 < length d.part)) all c.loop-day.invariant.1),
    )
