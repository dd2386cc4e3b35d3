use Rattle.std.proofs.Common.{◌∙◌, FitsSigned, ap, refl, subst, unsigned_abs, w64}
use Rattle.std.proofs.lemmas.Int.{to_z-of_z}
use Rattle.log_model.specs.History.{rows_of}
use Rattle.vl_trial.specs.Questions.{all_counted, errors_by_app, slow_counted}
use Rattle.vl_trial.specs.QueryTexts.{count_text, errors_text, slow_text}
use Rattle.vl_trial.specs.Answer.{AreLines}
use Rattle.vl_trial.specs.Trial.{trial_batches}
use Rattle.vl_trial.proofs.Asked.{has_records, if_ok}
use Rattle.lone_desk.proofs.QueryLemmas.{history_rows}
use Rattle.vl_trial.proofs.trial.trial_lines.Goals as goal

pub lines_of-requires-clause-has : goal.lines_of-requires-clause-has
lines_of-requires-clause-has g c =
    let fits : FitsSigned w64 c.args.now = c.ranges.now in
    simp to_z-of_z (has_records count_text all_counted (unsigned_abs c.args.now) c.args.seed c.args.rows
    c.insert_rows.new.desk.history c.trial_queries_law.ensures.counted refl c.trial_law.ensures.questions.0
    c.requires.rows c.in_ok-insert_rows.ensures.rows)

pub lines_of-requires-2-clause-has : goal.lines_of-requires-2-clause-has
lines_of-requires-2-clause-has g c =
    let fits : FitsSigned w64 c.args.now = c.ranges.now in
    simp to_z-of_z (has_records errors_text errors_by_app (unsigned_abs c.args.now) c.args.seed c.args.rows
    c.lines_of.new.desk.history c.trial_queries_law.ensures.errors refl c.trial_law.ensures.questions.1.0
    c.requires.rows (ap rows_of c.in_ok-counted.ensures.same ∙ c.in_ok-insert_rows.ensures.rows))

pub lines_of-requires-3-clause-has : goal.lines_of-requires-3-clause-has
lines_of-requires-3-clause-has g c =
    let fits : FitsSigned w64 c.args.now = c.ranges.now in
    simp to_z-of_z (has_records slow_text slow_counted (unsigned_abs c.args.now) c.args.seed c.args.rows
    c.lines_of-2.new.desk.history c.trial_queries_law.ensures.slow refl c.trial_law.ensures.questions.1.1.0
    c.requires.rows
    (ap rows_of (c.in_ok-errors.ensures.same ∙ c.in_ok-counted.ensures.same) ∙ c.in_ok-insert_rows.ensures.rows))

pub returns : goal.returns
returns g c =
    let fits : FitsSigned w64 c.args.now = c.ranges.now in
    let now = unsigned_abs c.args.now in
    let all = history_rows c.insert_rows.new.desk.history (trial_batches c.args.seed c.args.rows)
    c.in_ok-insert_rows.ensures.entered in
    let second = ap rows_of c.in_ok-counted.ensures.same ∙ all in
    let third = ap rows_of c.in_ok-errors.ensures.same ∙ second in
    if_ok c.joined.result _ _ c.joined.ensures
    (λ lines is. record {
      counted = c.in_ok-counted.counted;
      errors = c.in_ok-errors.errors;
      slow = c.in_ok-slow.slow;
      are_counted = subst (λ rows. AreLines count_text now rows c.in_ok-counted.counted) all
          (simp to_z-of_z at c.in_ok-counted.ensures.lines);
      are_errors = subst (λ rows. AreLines errors_text now rows c.in_ok-errors.errors) second
          (simp to_z-of_z at c.in_ok-errors.ensures.lines);
      are_slow = subst (λ rows. AreLines slow_text now rows c.in_ok-slow.slow) third
          (simp to_z-of_z at c.in_ok-slow.ensures.lines);
      joined = rw (c.as_str.ensures.value, c.as_str-2.ensures.value, c.as_str-3.ensures.value) at is;
    })
