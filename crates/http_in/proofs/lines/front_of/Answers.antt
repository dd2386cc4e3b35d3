use Rattle.std.proofs.Common.{refl}
use Rattle.http_in.proofs.LimitLemmas.{front_cut, front_long, front_whole}
use Rattle.http_in.proofs.lines.front_of.Goals as goal

pub returns-in-Some : goal.returns-in-Some
returns-in-Some c = front_cut c.args.bytes.now c.min.result c.in-Some.at c.args.lines c.min.ensures
    c.in-Some.ensures.some

pub returns-in-None : goal.returns-in-None
returns-in-None c =
    front_long c.args.bytes.now c.min.result c.args.lines c.min.ensures
    (c.in-None.ensures.none refl) c.if-bytes-ge-HEAD_LIMIT.true

pub returns-in-None-2 : goal.returns-in-None-2
returns-in-None-2 c =
    front_whole c.args.bytes.now c.min.result c.args.lines c.min.ensures
    (c.in-None.ensures.none refl) c.if-bytes-ge-HEAD_LIMIT.false
