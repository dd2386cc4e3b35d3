use Rattle.vl_status.proofs.ReportLemmas.{told}
use Rattle.vl_status.proofs.status.say.Goals as goal

pub returns : goal.returns
returns g c = rw (← c.as_bytes.ensures.value)
    (told c.put_all.result _ c.as_bytes.result.now c.put_all.ensures.ok c.put_all.ensures.err c.put_all.ensures.cause)
