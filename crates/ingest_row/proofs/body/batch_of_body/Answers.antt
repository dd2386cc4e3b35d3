use Rattle.std.proofs.Common.{◌≡◌, ◌∙◌, sym, subst, refl, FitsSigned, w64, List, ℕ}
use Rattle.std.proofs.lemmas.Int.{to_z-of_z}
use Rattle.ingest_row.proofs.Weighings.{begins, ends}
use Rattle.ingest_row.proofs.body.batch_of_body.Goals as goal

pub returns : goal.returns
returns c =
    let fits : FitsSigned w64 c.args.now = c.ranges.now in
    let taking = (simp to_z-of_z at c.in_ok-take_lines.ensures.takes) c.args.body.now
    (begins c.args.o.now c.args.now c.args.body.now c.new-taking.result c.new-taking.ensures.rows
    c.new-taking.ensures.refused c.new-taking.ensures.number c.new-taking.ensures.weight) in
    rw c.into_intake.ensures (ends c.args.o.now c.args.now c.args.body.now c.in_ok-take_lines.field-0.now c.take_lines.new.taking
    (c.in_ok-take_lines.ensures.all c.new-taking.ensures.most) taking)
