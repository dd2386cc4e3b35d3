use Rattle.std.proofs.Common.{◌≡◌, ◌≢◌, ◌-◌, List, None, Some, length, sym, refl, ap, subst, ◌∙◌}
use Rattle.std.proofs.lemmas.Bool.{eqb-false}
use Rattle.std.specs.Prelude.{IfSome}
use Rattle.std.specs.Option.{option_copied}
use Rattle.std.specs.List.{last_or, slice_get}
use Rattle.day_model.specs.Days.{DayRows}
use Rattle.merge_plan.proofs.Lists.{last-is}
use Rattle.merge_plan.proofs.group.open_job.Goals as goal
use Rattle.merge_plan.proofs.group.open_job.Goals.{in-Some, in-None}

pub returns-else-is_open-clause-none : goal.returns-else-is_open-clause-none
returns-else-is_open-clause-none c =
    let jobs : List DayRows = c.args.jobs.now.items in
    let got = ap (λ (l : List DayRows). slice_get l (length l - 1)) c.deref.ensures.value ∙ last-is jobs in
    elim c.match-last.branch [
      | in-Some w ↦
          let some : Some w.in-Some.job.now ≡ last_or None jobs = sym (ap option_copied w.in-Some.is)
          ∙ c.last.ensures.value ∙ got in (
            refl,
            subst (λ o. IfSome o (λ (job : DayRows). job.0 ≢ c.args.day)) some
                (λ same. eqb-false w.day.result c.args.day (sym w.is_open-is
                ∙ c.if-is_open.false) (w.day.ensures ∙ same)),
          )
      | in-None w ↦
          let none : None ≡ last_or None jobs = sym (ap option_copied w.in-None.is) ∙ c.last.ensures.value ∙ got in
          (refl, subst (λ o. IfSome o (λ (job : DayRows). job.0 ≢ c.args.day)) none tt)
    ]
