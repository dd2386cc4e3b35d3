use Rattle.std.proofs.Common.{arith}
use Rattle.http_in.specs.Lacks.{LacksBody}
use Rattle.http_in.specs.Progress.{progress_of}
use Rattle.http_in.proofs.MoveLemmas.{moves_none, moves_step}
use Rattle.http_in.proofs.body.read_body.Goals as goal

pub stages-init : goal.stages-init
stages-init g c = record {
  moved = moves_none g.S.Source.left (LacksBody (progress_of c.args.body.now c.args.window.now)) c.args.src.now
      c.args.body.now c.args.window.now;
  room = c.requires.room;
  stays = omega arith;
}

pub returns-in-Ok-clause-moved : goal.returns-in-Ok-clause-moved
returns-in-Ok-clause-moved g c =
    moves_step g.S.Source.left c.args.src.now c.stages.src c.step.new.src
    (progress_of c.args.body.now c.args.window.now) (progress_of c.stages.body c.stages.window)
    (progress_of c.step.new.body c.step.new.window) c.stages.invariant.moved c.in-Ok.ensures.moved

pub stages-preserved : goal.stages-preserved
stages-preserved g c = record {
  moved = moves_step g.S.Source.left c.args.src.now c.stages.src c.step.new.src
      (progress_of c.args.body.now c.args.window.now) (progress_of c.stages.body c.stages.window)
      (progress_of c.step.new.body c.step.new.window) c.stages.invariant.moved c.in-Ok.ensures.moved;
  room = c.in-Ok.ensures.room;
  stays = omega (arith, c.stages.invariant.stays, c.in-Ok.ensures.faults);
}

pub returns-in-Err-clause-moved : goal.returns-in-Err-clause-moved
returns-in-Err-clause-moved g c =
    moves_step g.S.Source.left c.args.src.now c.stages.src c.step.new.src
    (progress_of c.args.body.now c.args.window.now) (progress_of c.stages.body c.stages.window)
    (progress_of c.step.new.body c.step.new.window) c.stages.invariant.moved c.in-Err.ensures.moved
