use Rattle.std.proofs.Common.{subst, sym, ap, ◌∙◌}
use Rattle.log_model.specs.Core.{Contents}
use Rattle.log_model.specs.History.{Numbered}
use Rattle.log_desk.specs.Keeping.{MayKeep}
use Rattle.log_desk.proofs.OpenLaws.{holds_opened, may_keep}
use Rattle.log_desk.proofs.desk.Desk.of_store.Goals as goal
use Rattle.std.proofs.Common.{List}

pub returns-in-Ok-over-clause-history : goal.returns-in-Ok-over-clause-history
returns-in-Ok-over-clause-history g c =
    let found = c.in-Ok-over.ensures.history in
    (holds_opened c.args.store c.in-Ok.shelf c.in-Ok-over.pass.seen c.in-Ok.ensures found.0, found.1)

pub returns-in-Ok-over-clause-keeper : goal.returns-in-Ok-over-clause-keeper
returns-in-Ok-over-clause-keeper g c =
    let desk = c.in-Ok-over.desk in
    let pass = c.in-Ok-over.pass in
    let over = c.in-Ok-over.ensures in
    let holds = holds_opened c.args.store c.in-Ok.shelf pass.seen c.in-Ok.ensures over.history.0 in (
      c.beside.ensures,
      subst (λ s. MayKeep desk s pass) (sym c.beside.ensures)
          (may_keep c.args.store desk pass over.lock.0
          (over.mark.0 ∙ ap (λ (held : Contents (List Numbered)). held.settled) c.in-Ok.ensures) over.mark.1 holds),
      over.lock.1,
    )
