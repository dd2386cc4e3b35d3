use Rattle.http_in.proofs.LackLemmas.{lacks_head_unless}
use Rattle.http_in.proofs.search.is_due.Goals as goal

pub returns-clause-none : goal.returns-clause-none
returns-clause-none c = λ none.
    lacks_head_unless c.args.bytes.now c.args.search.now.searched c.ends_head.result none c.requires.none
    c.ends_head.ensures.ends
