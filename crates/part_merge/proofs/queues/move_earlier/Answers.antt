use Rattle.std.proofs.Common.{◌≡◌, ◌∙◌, List, ap, arith, sym, take}
use Rattle.std.proofs.lemmas.List.{take_all}
use Rattle.log_model.specs.History.{Numbered}
use Rattle.part_merge.specs.Before.{are_before}
use Rattle.part_merge.proofs.MergeLaws.{front-moved, whole-moved}
use Rattle.part_merge.proofs.queues.move_earlier.Goals as goal

pub returns-in_ok-push : goal.returns-in_ok-push
returns-in_ok-push c = (
  c.front.result,
  front-moved c.args.queue.now.items c.pop_front.new.self.items c.push_front.new.self.items c.args.picks.now.items
      c.push.new.self.items c.in-Some.pick c.front.result c.rest.result c.earlier_rows-count.result
      c.in-Some.ensures.items c.front.ensures c.rest.ensures c.in_ok-push_front.ensures.items c.in_ok-push.ensures.items
      c.earlier_rows-count.ensures.some c.earlier_rows-count.ensures.there,
  ap (λ (l : List Numbered). are_before l (take 1 c.args.other.now)) c.front.ensures
      ∙ c.earlier_rows-count.ensures.before,
)

pub returns-in_ok-push-2 : goal.returns-in_ok-push-2
returns-in_ok-push-2 c =
    let all : take c.earlier_rows-count.result c.in-Some.pick ≡ c.in-Some.pick = take_all c.earlier_rows-count.result
    c.in-Some.pick (omega (arith, c.if-count-len.false, c.len.ensures.count)) in (
      c.in-Some.pick,
      whole-moved c.args.queue.now.items c.pop_front.new.self.items c.args.picks.now.items
          c.push-else-count-len.new.self.items c.in-Some.pick c.in-Some.ensures.items c.in_ok-push-2.ensures.items
          c.len.ensures.some,
      ap (λ (l : List Numbered). are_before l (take 1 c.args.other.now)) (sym all)
          ∙ c.earlier_rows-count.ensures.before,
    )
