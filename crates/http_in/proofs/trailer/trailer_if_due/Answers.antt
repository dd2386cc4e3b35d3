use Rattle.http_in.proofs.LackLemmas.{lacks_section_unless, no_feed}
use Rattle.http_in.proofs.trailer.trailer_if_due.Goals as goal

pub returns-then-not-has_line_end-clause-open : goal.returns-then-not-has_line_end-clause-open
returns-then-not-has_line_end-clause-open c = λ _.
    let bytes = c.args.bytes.now in
    let quiet = no_feed c.args.searched bytes c.has_line_end.result c.if-not-has_line_end.true c.has_line_end.ensures in
    (quiet.0, lacks_section_unless c.args.searched bytes c.requires.none quiet.1)
