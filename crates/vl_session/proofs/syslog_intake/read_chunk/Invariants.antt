use Rattle.std.proofs.Common.{◌≡◌, ◌+◌, ◌-◌, ◌*◌, ◌≤◌, List, length, drop, unsigned_abs, vec_len, Option}
use Rattle.log_model.specs.Row.{Row, batch_weight}
use Rattle.vl_session.specs.SyslogSession.{message_rows}
use Rattle.vl_session.specs.SyslogTaking.{BeginWith}
use Rattle.vl_session.proofs.syslog_intake.read_chunk.Given as goal

abbrev pub invariant-messages : goal.invariant-messages
invariant-messages l = record {
  outcomes : List (Option Row);
  given : BeginWith (unsigned_abs l.now) (drop l.start l.messages) outcomes;
  end_is : l.end ≡ l.start + length outcomes;
  rows : l.rows.items ≡ message_rows outcomes;
  within : l.end ≤ length l.messages;
  few : vec_len l.rows ≤ 256;
  light : batch_weight l.rows.items ≤ 262_144 * vec_len l.rows;
}

abbrev pub decreases-messages : goal.decreases-messages
decreases-messages l = length l.messages - l.end
