use Rattle.std.proofs.Common.{sym}
use Rattle.std.proofs.lemmas.List.{take-map}
use Rattle.syslog_in.proofs.Texts.{taken}
use Rattle.syslog_in.proofs.frames.Frames.truncate.Goals as goal

pub invariant_of-self : goal.invariant_of-self
invariant_of-self c =
    rw c.truncate.ensures.items
    (taken c.self.inside.bytes.items c.self.inside.spans.items c.args.count c.self.invariant)

pub returns : goal.returns
returns c =
    rw (c.truncate.ensures.items, ← c.self.view_is) (sym (take-map _ c.args.count c.self.inside.spans.items))
