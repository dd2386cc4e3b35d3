use Rattle.std.proofs.Common.{subst, sym}
use Rattle.vl_pipe.specs.Storing.{StopsInsert}
use Rattle.vl_pipe.proofs.LoadLemmas.{if_err}
use Rattle.vl_pipe.proofs.stored_load.store_group.Goals as goal

pub returns-in_err-number-clause-stopped : goal.returns-in_err-number-clause-stopped
returns-in_err-number-clause-stopped g c arrival reads =
    if_err c.from_residual.result _ _ c.from_residual.ensures.1
    (λ stop is. subst (StopsInsert _ _ _ _ _ _) (sym is) (c.in_err-number.ensures.stopped arrival reads))
