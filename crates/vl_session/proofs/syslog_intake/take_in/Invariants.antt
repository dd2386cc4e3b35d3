use Rattle.std.proofs.Common.{◌≡◌, ◌-◌, ◌≤◌, List, length, unsigned_abs, Option}
use Rattle.log_model.specs.Row.{Batch, Row}
use Rattle.log_desk.specs.Passes.{IsPassOf}
use Rattle.log_desk.specs.Seen.{caller_of, seen_of}
use Rattle.vl_session.specs.SyslogTaking.{TakesUp}
use Rattle.vl_session.proofs.syslog_intake.take_in.Given as goal

abbrev pub invariant-batches : goal.invariant-batches
invariant-batches g l = record {
  outcomes : List (Option Row);
  batches : List Batch;
  takes : TakesUp (caller_of l.initial.pass) (unsigned_abs l.now) l.messages (seen_of l.initial.pass) (seen_of l.pass)
      l.initial.counts l.counts outcomes batches;
  pass : IsPassOf l.access.desk.now l.pass;
  caller : caller_of l.pass ≡ caller_of l.initial.pass;
  at_is : l.at ≡ length outcomes;
  within : l.at ≤ length l.messages;
}

abbrev pub decreases-batches : goal.decreases-batches
decreases-batches g l = length l.messages - l.at
