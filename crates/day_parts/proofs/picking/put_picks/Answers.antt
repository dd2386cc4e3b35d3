use Rattle.std.proofs.Common.{◌++◌, ◌<◌, ◌∙◌, List, ap, arith, length, subst, sym, take}
use Rattle.std.proofs.lemmas.List.{length-take-le, take-append-drop, take_all}
use Rattle.day_parts.specs.Runs.{IsOfOneDay}
use Rattle.log_model.specs.History.{Numbered}
use Rattle.day_parts.proofs.DayLaws.{day-beside}
use Rattle.day_parts.proofs.RunLaws.{days-push, rows-push}
use Rattle.day_parts.proofs.picking.put_picks.Goals as goal

pub loop-end-preserved : goal.loop-end-preserved
loop-end-preserved c =
    let first = c.front-first.result in
    let some : 0 < length c.front-first.result = omega (
      arith,
      ap length c.front-first.ensures,
      length-take-le c.loop-end.end c.loop-end.rest
          c.loop-end.invariant.there,
      c.loop-end.invariant.some,
    ) in
    record {
      some = c.day_end-end-in-loop-end.ensures.some;
      there = c.day_end-end-in-loop-end.ensures.there;
      day = c.day_end-end-in-loop-end.ensures.day;
      rows = rows-push c.loop-end.picks.items c.push.new.self.items c.day_at.result first c.rest-rest.result
          c.loop-end.rest _ c.in_ok-push.ensures.items (ap (λ (l : List Numbered). l ++ c.rest-rest.result)
          c.front-first.ensures ∙ ap (λ (l : List Numbered). take c.loop-end.end c.loop-end.rest ++ l) c.rest-rest.ensures
          ∙ take-append-drop c.loop-end.end c.loop-end.rest) c.loop-end.invariant.rows;
      days = λ h. days-push c.loop-end.picks.items c.push.new.self.items c.day_at.result first
          c.in_ok-push.ensures.items (day-beside first c.day_at.result some c.day_at.ensures (subst IsOfOneDay (sym
          c.front-first.ensures) c.loop-end.invariant.day)) (c.loop-end.invariant.days h);
    }

pub returns-clause-days : goal.returns-clause-days
returns-clause-days c =
    λ h. days-push c.loop-end.picks.items c.push-2.new.self.items c.day_at-2.result c.loop-end.rest
    c.in_ok-push-2.ensures.items (day-beside c.loop-end.rest c.day_at-2.result c.len.ensures.some c.day_at-2.ensures (subst
    IsOfOneDay (take_all c.loop-end.end c.loop-end.rest (omega (arith, c.loop-end-test.false, c.len.ensures.count)))
    c.loop-end.invariant.day)) (c.loop-end.invariant.days h)
