use Rattle.std.proofs.Common.{◌∙◌, arith, rules, sym}
use Rattle.std.proofs.lemmas.Grind.{common_steps}
use Rattle.ingest_row.specs.Asked.{extras_of}
use Rattle.ingest_row.proofs.Asked.{extras_none, extras_push}
use Rattle.ingest_row.proofs.read.extras.Goals as goal

pub loop-piece-init : goal.loop-piece-init
unfolding extras_of
loop-piece-init c = search rules

pub returns-in_default : goal.returns-in_default
returns-in_default c =
    let bad = sym c.in_ok-field.ensures ∙ c.in_default.is in
    let none_asked = extras_none c.deref-piece-items.result.now c.loop-piece.piece-index _ c.loop-piece-test.true bad in
    cc (none_asked, c.in_ok-pieces.ensures)

pub loop-piece-preserved : goal.loop-piece-preserved
loop-piece-preserved c = grind (arith, common_steps, extras_push)
