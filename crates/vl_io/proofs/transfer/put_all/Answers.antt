use Rattle.std.proofs.Common.{length, arith, rules, ap}
use Rattle.std.proofs.lemmas.List.{take_rest, places}
use Rattle.vl_io.proofs.Laws.{Appends-more}
use Rattle.vl_io.proofs.transfer.put_all.Goals as goal

-- what was written so far, and then a front of the rest
pub loop-done-preserved : goal.loop-done-preserved
loop-done-preserved g c =
    let before = c.loop-done.invariant in
    let took = c.in_ok-done.ensures in
    let bytes = c.args.piece.now in
    let rest = take_rest bytes c.loop-done.done in
    record {
      within = search (rules, places);
      appended = Appends-more _ _ _ _ _ _ before.appended (rw rest at took.bytes);
      stays = omega (arith, took.cause.stays);
      idle = λ none. absurd (omega (arith, c.loop-done-test.true, ap length none));
    }
