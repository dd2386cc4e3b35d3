use Rattle.vl_io.proofs.Laws.{AddsPiece-trans}
use Rattle.http_in.proofs.body.read_to.Goals as goal

pub returns-in-Err-clause-adds : goal.returns-in-Err-clause-adds
returns-in-Err-clause-adds g c = AddsPiece-trans _ _ _ _ _ _ c.reads.invariant.adds c.in-Err.ensures.adds
