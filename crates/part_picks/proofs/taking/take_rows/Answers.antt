use Rattle.std.proofs.Common.{◌≡◌, ◌+◌, ◌++◌, ◌∙◌, List, ap, arith, length, take}
use Rattle.std.proofs.lemmas.List.{length-take, take-append-drop}
use Rattle.log_model.specs.History.{Numbered}
use Rattle.part_model.specs.Filling.{rows_in_blocks}
use Rattle.part_picks.proofs.TakeLaws.{count-push, move-front}
use Rattle.part_picks.proofs.taking.take_rows.Goals as goal

pub loop-left-preserved : goal.loop-left-preserved
loop-left-preserved c =
    let count : length (rows_in_blocks c.push-else-rows-left.new.self.items) ≡ length (rows_in_blocks
    c.loop-left.picks.items) + length c.front.result = count-push c.loop-left.picks.items
    c.push-else-rows-left.new.self.items c.front.result c.in_ok-push-2.ensures.items in
    record {
      all = move-front c.loop-left.picks.items c.push-else-rows-left.new.self.items c.loop-left.queue.items
          c.pop_front.new.self.items c.push_front.new.self.items c.in-Some.pick c.front.result c.rest.result
          (rows_in_blocks c.args.queue.now.items) c.in-Some.ensures.items c.in_ok-push_front.ensures.items
          c.in_ok-push-2.ensures.items (ap (λ (l : List Numbered). l ++ c.rest.result) c.front.ensures
          ∙ ap (λ (l : List Numbered). take c.loop-left.left c.in-Some.pick ++ l) c.rest.ensures
          ∙ take-append-drop c.loop-left.left c.in-Some.pick) c.loop-left.invariant.all;
      count = omega (
        arith,
        count,
        ap length c.front.ensures,
        length-take c.loop-left.left c.in-Some.pick,
        c.if-rows-left.false,
        c.len-rows.ensures.count,
        c.loop-left.invariant.count,
      );
    }
