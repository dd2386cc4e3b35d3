use Rattle.std.proofs.Common.{◌≡◌, ◌-◌, arith}
use Rattle.vl_trial.proofs.Cutting.{no_rows, no_steps, rows_more, state_next}
use Rattle.vl_trial.proofs.batches.rows_from.Goals as goal

pub loop-number-init : goal.loop-number-init
loop-number-init c =
    let none : c.args.first - c.args.first ≡ 0 = omega arith in
    record {
      state = rw none (no_steps c.args.state);
      rows = rw (none, no_rows c.args.state c.args.first) c.in_ok-rows.ensures.items;
    }

pub loop-number-preserved : goal.loop-number-preserved
loop-number-preserved c =
    let first = c.args.first in
    let number = c.loop-number.number in
    let before = c.loop-number.invariant in
    let more = rows_more c.args.state first number (omega arith) in
    let pushed = c.in_ok-push.ensures.items in
    record {
      state = rw (state_next c.args.state first number (omega arith), ← before.state) c.next_state-state.ensures;
      rows = rw (more, ← before.state, ← before.rows, ← c.next_state-state.ensures, ← c.in_ok-trial_row.ensures) pushed;
    }
