use Rattle.http_in.proofs.LineLemmas.{trailer_front}
use Rattle.http_in.proofs.trailer.trailer_in.Goals as goal

pub returns-in-Some-clause-found : goal.returns-in-Some-clause-found
returns-in-Some-clause-found c = trailer_front c.min.result c.args.bytes.now _ c.in-Some.ensures
