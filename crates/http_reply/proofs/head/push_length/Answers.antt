use Rattle.std.proofs.Common.{append-nil}
use Rattle.std.specs.Prelude.{codes, decimal}
use Rattle.http_reply.specs.Reply.{field_line}
use Rattle.http_reply.proofs.head.push_length.Goals as goal

pub returns : goal.returns
returns c =
    rw c.if-bare.false
    (rw (append-nil (field_line (codes "Content-Length", decimal c.args.length)))
    (rw c.format.ensures.text at c.push_field.ensures))
