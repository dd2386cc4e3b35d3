use Rattle.std.proofs.Common.{◌++◌}
use Rattle.http_in.proofs.TurnLemmas.{ready_rest, rest_fault, rest_moved}
use Rattle.http_in.specs.Progress.{progress_of}
use Rattle.http_in.proofs.turn.rest_of_request.Goals as goal

pub returns-in-Err-clause-taken : goal.returns-in-Err-clause-taken
returns-in-Err-clause-taken g c =
    rest_fault _ _ c.args.begun.now c.args.body.now c.read_body.new.body c.args.window.now c.read_body.new.window _
    c.in-Err.fault
    c.requires.some c.requires.begun c.in-Err.ensures.room
    (c.in-Err.ensures.moved.0, c.in-Err.ensures.moved.1, c.in-Err.ensures.moved.2) c.in-Err.ensures.stops

pub returns-in-Ok-end_request-clause-taken : goal.returns-in-Ok-end_request-clause-taken
returns-in-Ok-end_request-clause-taken g c =
    let m = c.in-Ok.ensures.moved in (
      m.0,
      m.1,
      λ start bytes h.
          c.in-Ok-end_request.ensures.ok start (bytes ++ m.0) c.read_body.new.window
          (rest_moved start bytes m.0 c.args.begun.now c.args.body.now c.read_body.new.body c.args.window.now
          c.read_body.new.window
          c.requires.some m.2 h),
    )

pub returns-in-Err-clause-ready : goal.returns-in-Err-clause-ready
returns-in-Err-clause-ready g c = λ held.
    ready_rest g.S.Source.left c.args.src.now c.read_body.new.src c.args.begun.now c.args.body.now c.args.window.now
    (progress_of c.read_body.new.body c.read_body.new.window) c.requires.some c.requires.begun held
    c.in-Err.ensures.moved

pub returns-in-Ok-end_request-clause-ready : goal.returns-in-Ok-end_request-clause-ready
returns-in-Ok-end_request-clause-ready g c = λ held.
    ready_rest g.S.Source.left c.args.src.now c.read_body.new.src c.args.begun.now c.args.body.now c.args.window.now
    (progress_of c.read_body.new.body c.read_body.new.window) c.requires.some c.requires.begun held
    c.in-Ok.ensures.moved

pub returns-in-Err-end_request-clause-ready : goal.returns-in-Err-end_request-clause-ready
returns-in-Err-end_request-clause-ready g c = λ held.
    ready_rest g.S.Source.left c.args.src.now c.read_body.new.src c.args.begun.now c.args.body.now c.args.window.now
    (progress_of c.read_body.new.body c.read_body.new.window) c.requires.some c.requires.begun held
    c.in-Ok.ensures.moved
