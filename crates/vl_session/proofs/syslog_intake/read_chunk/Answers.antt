use Rattle.std.proofs.Common.{◌≡◌, ◌+◌, ◌++◌, ◌∷◌, [], List, Option, length, ap, subst, ◌∙◌, arith}
use Rattle.std.proofs.Common.{length-append, IfSome, unsigned_abs, w64, to_z, of_z}
use Rattle.log_model.specs.Row.{IsRow, Row, batch_weight}
use Rattle.vl_session.proofs.SyslogIntake.{rows_more, rows_same}
use Rattle.vl_session.proofs.SyslogLists.{light_more, read_more}
use Rattle.vl_session.proofs.syslog_intake.read_chunk.Goals as goal
use Rattle.vl_session.proofs.syslog_intake.read_chunk.Goals.{in-Some+in_ok-push, in_default}

pub messages-preserved : goal.messages-preserved
messages-preserved c =
    let i = c.messages.invariant in
    let moment = unsigned_abs (to_z w64 (of_z w64 c.args.now)) in
    let outcome : Option Row = c.in_ok-row.field-0 in
    let outcomes : List (Option Row) = i.outcomes ++ outcome ∷ [] in
    let given = read_more moment c.args.start c.messages.end c.args.messages.now i.outcomes c.at.result.now outcome
    i.given i.end_is c.at.ensures c.in_ok-row.ensures.outcome in
    let count : length outcomes ≡ length i.outcomes + 1 = omega (arith, length-append i.outcomes (outcome ∷ [])) in
    elim c.match-branch-3.branch [
      | in-Some+in_ok-push w ↦
          let row = w.in-Some.row in
          let grown : c.match-branch-3.rows.items ≡ c.messages.rows.items ++ row ∷ [] =
          ap (λ v. v.items) w.rows-is ∙ w.in_ok-push.ensures.items in
          let light = light_more c.messages.rows.items row (omega (arith, i.light, c.messages.rows.ok.0))
          (subst (λ o. IfSome o IsRow) w.in-Some.is c.in_ok-row.ensures.rules) in
          record {
            outcomes = outcomes;
            given = given;
            end_is = omega (arith, i.end_is, count);
            rows = rows_more c.messages.rows.items c.match-branch-3.rows.items i.outcomes outcome row i.rows
                w.in-Some.is
                grown;
            within = omega (arith, c.messages-test.true, c.len-in-messages.ensures);
            few = omega (
              arith,
              c.match-branch-3.rows.ok.0,
              ap length grown,
              length-append c.messages.rows.items (row ∷ []),
              c.messages.rows.ok.0,
              c.if-len-lt-BATCH_ROWS.true,
              c.len-in-messages-2.ensures,
            );
            light = omega (arith, light, ap batch_weight grown, ap length grown, c.match-branch-3.rows.ok.0);
          }
      | in_default w ↦
          let same : c.match-branch-3.rows.items ≡ c.messages.rows.items = ap (λ v. v.items) w.rows-is in
          record {
            outcomes = outcomes;
            given = given;
            end_is = omega (arith, i.end_is, count);
            rows = same ∙ rows_same c.messages.rows.items i.outcomes outcome i.rows w.in_default.is;
            within = omega (arith, c.messages-test.true, c.len-in-messages.ensures);
            few = omega (arith, i.few, c.match-branch-3.rows.ok.0, ap length same, c.messages.rows.ok.0);
            light = omega (
              arith,
              i.light,
              ap batch_weight same,
              ap length same,
              c.match-branch-3.rows.ok.0,
              c.messages.rows.ok.0,
            );
          }
    ]
