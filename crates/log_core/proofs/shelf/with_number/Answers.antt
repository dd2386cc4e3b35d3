use Rattle.std.proofs.Common.{sym, subst}
use Rattle.log_model.specs.History.{AreOfOneBatch}
use Rattle.log_model.proofs.Numbering.{batch_is_one}
use Rattle.log_core.proofs.shelf.with_number.Goals as goal

pub set_batch-requires : goal.set_batch-requires
set_batch-requires g c =
    subst (λ part. AreOfOneBatch (g.P.Held.numbered part)) (sym c.in-Some.ensures.value) (batch_is_one _ c.requires)
