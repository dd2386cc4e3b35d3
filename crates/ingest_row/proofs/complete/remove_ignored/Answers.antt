use Rattle.std.proofs.Common.{◌∙◌}
use Rattle.ingest_row.proofs.Far.{removed_is}
use Rattle.ingest_row.proofs.complete.remove_ignored.Goals as goal

pub returns-clause-value : goal.returns-clause-value
returns-clause-value c =
    c.remove_listed.ensures.value
    ∙ removed_is c.args.o.now.ignored_fields c.ignored.result.now c.args.fields.now c.remove_listed.ensures.before
    c.ignored.ensures
