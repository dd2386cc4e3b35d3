use Rattle.vl_session.proofs.GrowLemmas.{alone_grows}
use Rattle.vl_session.proofs.law.alone_law.Goals as goal

pub returns : goal.returns
returns _ caller old new batches turns one first grows = alone_grows caller one first old new batches turns grows
