use Rattle.http_reply.proofs.PartLemmas.{second_cut}
use Rattle.http_reply.proofs.whole.put_parts.Goals as goal

pub returns-clause-err : goal.returns-clause-err
returns-clause-err g c =
    second_cut c.put_all-2.result _ _ _ c.args.head.now c.args.content.now
    (rw c.as_bytes.ensures.value at c.in_ok-put_all.ensures.ok)
    (rw c.as_bytes-2.ensures.value at c.put_all-2.ensures.err)
