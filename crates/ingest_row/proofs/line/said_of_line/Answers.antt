use Rattle.std.proofs.Common.{subst}
use Rattle.jsonline_in.specs.Faults.{Refuses}
use Rattle.ingest_row.proofs.line.said_of_line.Goals as goal

pub returns-in-Err-TooDeep-clause-none : goal.returns-in-Err-TooDeep-clause-none
returns-in-Err-TooDeep-clause-none c = λ _ other says.
    subst (λ fault. Refuses fault c.args.line.now) c.in-Err-TooDeep.field-0-is c.in-Err-TooDeep.ensures.refused
    says.members says.is_object

pub returns-in-Err-NotJson-clause-none : goal.returns-in-Err-NotJson-clause-none
returns-in-Err-NotJson-clause-none c = λ _ other says.
    subst (λ fault. Refuses fault c.args.line.now) c.in-Err-NotJson.field-0-is c.in-Err-NotJson.ensures.refused
    says.members says.is_object
