use Rattle.std.proofs.Common.{lit<, rules, tests, not}
use Rattle.std.proofs.lemmas.Iterator.Consumers.{YieldsList-at, YieldsList-from_filter, map_from_collect}
use Rattle.std.proofs.lemmas.Iterator.Splits.{YieldsList-from_str_split}
use Rattle.log_model.specs.Field.{is_empty}
use Rattle.ingest_row.specs.Asked.{pieces}
use Rattle.ingest_row.proofs.read.pieces.Goals as goal

pub returns : goal.returns
unfolding pieces
returns c = map_from_collect _ c.collect.ensures.ran
    (YieldsList-from_filter _ (λ piece. not (is_empty piece))
    (YieldsList-at c.filter.ensures.source (YieldsList-from_str_split 44 c.args.list.now (lit< tt)
    c.split.ensures.text c.split.ensures.has_more c.split.ensures.pattern))
    c.filter.ensures.closure (λ x r q k. search (rules, tests)))
