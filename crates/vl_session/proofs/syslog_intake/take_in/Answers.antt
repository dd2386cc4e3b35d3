use Rattle.std.proofs.Common.{◌≡◌, ◌<◌, [], ◌++◌, drop, length, refl, arith, length-append, subst, ◌∙◌, unsigned_abs}
use Rattle.std.proofs.Common.{FitsSigned, w64, to_z, of_z}
use Rattle.std.proofs.lemmas.Int.{to_z-of_z}
use Rattle.log_desk.specs.Seen.{caller_of, seen_of}
use Rattle.vl_session.specs.Seen.{Has, batches_of_rows}
use Rattle.vl_session.specs.SyslogSession.{TakesAll, end_effect}
use Rattle.vl_session.specs.SyslogTaking.{BeginWith, HoldsUp}
use Rattle.vl_session.proofs.SeenLemmas.{follows_none}
use Rattle.vl_session.proofs.SyslogIntake.{few_counted, few_rows, takes_first, takes_more, takes_some}
use Rattle.vl_session.proofs.syslog_intake.take_in.Goals as goal

pub batches-init : goal.batches-init
batches-init g c =
    let moment = unsigned_abs (to_z w64 (of_z w64 c.args.now)) in
    record {
      outcomes = [];
      batches = [];
      takes = takes_first (caller_of c.args.pass.now) moment c.args.messages.now (seen_of c.args.pass.now)
          c.args.counts.now;
      pass = c.requires.pass;
      caller = refl;
      at_is = refl;
      within = omega arith;
    }

pub overflow_sub-counts-in-batches : goal.overflow_sub-counts-in-batches
overflow_sub-counts-in-batches g c =
    let chunk = c.in-Ok.ensures.chunk in
    omega (
      arith,
      c.len-accepted.ensures,
      c.in-Ok.chunk.rows.ok.0,
      few_rows chunk.outcomes c.in-Ok.chunk.rows.items chunk.rows,
      chunk.end_is,
    )

pub overflow_add-counts : goal.overflow_add-counts
overflow_add-counts g c =
    let i = c.batches.invariant in
    let chunk = c.in-Ok.ensures.chunk in
    omega (
      arith,
      c.len-accepted.ensures,
      c.in-Ok.chunk.rows.ok.0,
      few_rows chunk.outcomes c.in-Ok.chunk.rows.items chunk.rows,
      chunk.end_is,
      i.at_is,
      c.in-Ok.ensures.within,
      c.requires.room,
      few_counted (caller_of c.args.pass.now) _ _ _ _ c.args.counts.now c.batches.counts i.outcomes i.batches i.takes,
    )

-- memory ran out for the rows
pub returns-in-Err-clause-some : goal.returns-in-Err-clause-some
returns-in-Err-clause-some g c =
    let i = c.batches.invariant in
    let fits : FitsSigned w64 c.args.now = c.ranges.now in
    let takes = simp to_z-of_z at i.takes in
    let caller = caller_of c.args.pass.now in
    let below : c.batches.at < length c.args.messages.now = omega (arith, c.batches-test.true, c.len.ensures) in (
      i.outcomes,
      i.batches,
      takes_some caller (unsigned_abs c.args.now) c.args.messages.now _ _ _ c.args.counts.now c.batches.counts i.outcomes [] i.batches
          _ takes (follows_none caller (seen_of c.batches.pass)) tt tt (omega (arith, i.at_is, below)),
    )

-- the desk refuses them
pub returns-in-Err-insert_rows-clause-some : goal.returns-in-Err-insert_rows-clause-some
returns-in-Err-insert_rows-clause-some g c =
    let i = c.batches.invariant in
    let fits : FitsSigned w64 c.args.now = c.ranges.now in
    let takes = simp to_z-of_z at i.takes in
    let caller = caller_of c.args.pass.now in
    let chunk = simp to_z-of_z at c.in-Ok.ensures.chunk in
    let below : c.batches.at < length c.args.messages.now = omega (arith, c.batches-test.true, c.len.ensures) in (
      i.outcomes,
      i.batches,
      takes_some caller (unsigned_abs c.args.now) c.args.messages.now _ _ _ c.args.counts.now c.batches.counts i.outcomes
          chunk.outcomes i.batches _ takes
          (subst (λ caller. Has caller (seen_of c.batches.pass) (seen_of c.insert_rows.new.pass)
          (end_effect c.in-Err-insert_rows.end)) i.caller c.in-Err-insert_rows.ensures.has)
          (subst (λ n. BeginWith (unsigned_abs c.args.now) (drop n c.args.messages.now) chunk.outcomes) i.at_is chunk.given)
          (subst (λ rows. HoldsUp rows (seen_of c.insert_rows.new.pass) c.in-Err-insert_rows.end) chunk.rows
          c.in-Err-insert_rows.ensures.refused)
          (omega (arith, i.at_is, below)),
    )

pub batches-preserved : goal.batches-preserved
batches-preserved g c =
    let i = c.batches.invariant in
    let moment = unsigned_abs (to_z w64 (of_z w64 c.args.now)) in
    let chunk = c.in-Ok.ensures.chunk in
    let rows = c.in-Ok.chunk.rows.items in
    let count : c.len-accepted.result ≡ length rows = omega (arith, c.len-accepted.ensures, c.in-Ok.chunk.rows.ok.0) in
    let below : c.batches.at < length c.args.messages.now = omega (arith, c.batches-test.true, c.len.ensures) in
    let taken = c.in-Ok-insert_rows.ensures in
    record {
      outcomes = i.outcomes ++ chunk.outcomes;
      batches = i.batches ++ batches_of_rows rows;
      takes = takes_more (caller_of c.args.pass.now) moment c.batches.at c.args.messages.now _ _ _ c.args.counts.now
          c.batches.counts _ i.outcomes chunk.outcomes i.batches rows i.takes i.at_is chunk.given chunk.rows
          (omega (arith, c.in-Ok.ensures.few, c.in-Ok.chunk.rows.ok.0)) below
          (λ less. omega (arith, c.in-Ok.ensures.full (omega (arith, less, chunk.end_is)), c.in-Ok.chunk.rows.ok.0))
          (subst (λ caller. TakesAll caller (seen_of c.batches.pass) (batches_of_rows rows)
          (seen_of c.insert_rows.new.pass))
          i.caller taken.ok) (omega (arith, count)) (omega (arith, count, chunk.end_is));
      pass = taken.pass;
      caller = taken.caller ∙ i.caller;
      at_is = omega (arith, i.at_is, chunk.end_is, length-append i.outcomes chunk.outcomes);
      within = c.in-Ok.ensures.within;
    }
