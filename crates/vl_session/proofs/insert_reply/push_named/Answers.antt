use Rattle.std.proofs.Common.{rules, ◌<◌, ◌^◌}
use Rattle.vl_session.proofs.InsertLemmas.{named_plain}
use Rattle.vl_session.proofs.insert_reply.push_named.Goals as goal

pub returns : goal.returns
returns c =
    let few : c.args.fault.now.line < 2 ^ 64 = search rules in
    rw (named_plain c.args.fault.now few) (search rules)
