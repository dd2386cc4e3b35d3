use Rattle.std.proofs.Common.{FitsSigned, w64}
use Rattle.std.proofs.lemmas.Int.{to_z-of_z}
use Rattle.vl_session.proofs.QueryLemmas.{same_moment}
use Rattle.lone_desk.proofs.ReadLaws.{reading_at}
use Rattle.lone_desk.proofs.desk.read_lines.Goals as goal

pub returns : goal.returns
returns c =
    let fits : FitsSigned w64 c.args.now = c.ranges.now in
    reading_at c.args.options.now c.args.now c.args.body.now c.read.result (same_moment c.args.now c.requires)
    (simp to_z-of_z at c.read.ensures.read) (simp to_z-of_z at c.read.ensures.unread)
