use Rattle.std.proofs.Common.{◌≡◌, ◌++◌, [], append-nil, ap, length, rules, subst, sym, ◌∙◌}
use Rattle.std.specs.Option.{option_to_list}
use Rattle.log_desk.specs.Faults.{Refuses}
use Rattle.log_model.specs.History.{batches_in}
use Rattle.vl_trial.specs.Trial.{trial_batches, trial_rows}
use Rattle.vl_trial.proofs.Held.{all_rows, never_full, never_last, one_more}
use Rattle.vl_trial.proofs.Keeping.{keeps_more}
use Rattle.vl_trial.proofs.trial.insert_rows.Goals as goal

pub loop-batch-preserved : goal.loop-batch-preserved
loop-batch-preserved g c =
    let before = c.loop-batch in
    let all = trial_batches c.args.seed c.args.rows in
    let left = c.next_batch.new.self in
    let whole = subst (λ batches. batches_in before.desk.history ++ batches ≡ all)
    (c.in_ok-batch.ensures.given ∙ ap (λ next. option_to_list next ++ left) c.in-Some.is) before.invariant.0 in (
      ap (λ history. batches_in history ++ left) c.in_ok-round_after-in-Ok.ensures.same
          ∙ one_more before.desk c.insert.new.self c.in-Some.batch left all c.in-Ok.ensures.gains whole,
      c.in_ok-round_after-in-Ok.ensures.keeps,
      before.invariant.2,
      before.invariant.3,
    )

pub round_after-requires : goal.round_after-requires
round_after-requires g c =
    let before = c.loop-batch in
    keeps_more before.keeper before.desk c.insert.new.self c.in-Some.batch c.in-Ok.ensures.gains before.invariant.1

pub unreachable-requires : goal.unreachable-requires
unreachable-requires g c =
    let before = c.loop-batch in
    let all = trial_batches c.args.seed c.args.rows in
    let left = c.next_batch.new.self in
    let whole = subst (λ batches. batches_in before.desk.history ++ batches ≡ all)
    (c.in_ok-batch.ensures.given ∙ ap (λ next. option_to_list next ++ left) c.in-Some.is) before.invariant.0 in
    never_full before.desk c.insert.new.self c.in-Some.batch left all c.in-Err-Full.ensures.follows whole
    before.invariant.2 c.in-Err-Full.field-0-0
    (subst (Refuses (length c.insert.new.self.history) c.insert.new.self.settled) c.in-Err-Full.field-0-is c.in-Err-Full.ensures.refused)

pub unreachable-requires-in-Err-Spent : goal.unreachable-requires-in-Err-Spent
unreachable-requires-in-Err-Spent g c =
    let before = c.loop-batch in
    let all = trial_batches c.args.seed c.args.rows in
    let left = c.next_batch.new.self in
    let whole = subst (λ batches. batches_in before.desk.history ++ batches ≡ all)
    (c.in_ok-batch.ensures.given ∙ ap (λ next. option_to_list next ++ left) c.in-Some.is) before.invariant.0 in
    never_last before.desk c.insert.new.self c.in-Some.batch left all c.in-Err-Spent.ensures.follows whole
    before.invariant.2
    (subst (Refuses (length c.insert.new.self.history) c.insert.new.self.settled) c.in-Err-Spent.field-0-is c.in-Err-Spent.ensures.refused)

pub returns-clause-rows : goal.returns-clause-rows
returns-clause-rows g c =
    let all = trial_batches c.args.seed c.args.rows in
    let history = c.loop-batch.desk.history in
    let none : c.loop-batch.batches ≡ [] = search rules in
    let whole = subst (λ batches. batches_in history ++ batches ≡ all) none c.loop-batch.invariant.0 in
    all_rows history all (trial_rows c.args.seed c.args.rows) (sym (append-nil (batches_in history)) ∙ whole)
    c.loop-batch.invariant.3
