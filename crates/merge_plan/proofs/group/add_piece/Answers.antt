use Rattle.std.proofs.Common.{List, map, ◌++◌, ◌∷◌, [], sym, subst}
use Rattle.day_model.specs.Days.{DayRows}
use Rattle.part_store.specs.State.{day_part_of, listed_of}
use Rattle.merge_plan.specs.Grouping.{EndsElsewhere, IsGrouped}
use Rattle.merge_plan.proofs.Lists.{on-ok}
use Rattle.merge_plan.proofs.GroupLaws.{begin, go-on}
use Rattle.merge_plan.proofs.group.add_piece.Goals as goal

pub returns-in-Some : goal.returns-in-Some
returns-in-Some c = λ done rest was.
    let listed = map listed_of c.args.stored.now in
    let piece : DayRows = day_part_of c.args.piece.now in
    let files = c.args.groups.now.files.items in
    let open' = c.in-Some.ensures.some in
    on-ok c.go_on.result _ _ (λ is.
    subst (λ (l : List DayRows). IsGrouped listed (done ++ piece ∷ []) rest files l) (sym is)
    (go-on listed done rest files c.open_job.new.jobs.items c.in-Some.job piece.0 piece.1 open'.1
    (subst (λ (l : List DayRows). IsGrouped listed done (piece ∷ rest) files l) open'.0 was))) c.go_on.ensures

pub returns-in-None : goal.returns-in-None
returns-in-None c = λ done rest was.
    let listed = map listed_of c.args.stored.now in
    let piece : DayRows = day_part_of c.args.piece.now in
    let files = c.args.groups.now.files.items in
    let none = c.in-None.ensures.none in
    on-ok c.begin.result _ _ (λ begins.
    begin listed done rest files _ c.open_job.new.jobs.items _ piece c.requires.order
    (subst (λ (l : List DayRows). EndsElsewhere piece.0 l) (sym none.0) none.1) begins
    (subst (λ (l : List DayRows). IsGrouped listed done (piece ∷ rest) files l) (sym none.0) was)) c.begin.ensures
