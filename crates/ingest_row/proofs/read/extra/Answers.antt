use Rattle.std.proofs.Common.{lit<, sym}
use Rattle.ingest_row.proofs.Asked.{extra_none}
use Rattle.ingest_row.proofs.read.extra.Goals as goal

pub returns-in_default : goal.returns-in_default
returns-in_default c = sym (extra_none c.args.piece.now (c.in_default.ensures.byte (lit< tt) (λ rest found is. is)))
