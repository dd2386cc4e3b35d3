use Rattle.std.proofs.Common.{◌∙◌}
use Rattle.vl_io.specs.Bytes.{IsAtEnd}
use Rattle.http_in.specs.Reading.{FindsAt, held_by}
use Rattle.http_in.proofs.TurnLemmas.{head_fault, head_memory, head_then, ready_begun, ready_head}
use Rattle.http_in.proofs.turn.new_request.Goals as goal

pub returns-in-Ok-clause-taken : goal.returns-in-Ok-clause-taken
returns-in-Ok-clause-taken g c =
    let rest = c.rest_of_request in
    head_then _ _ _ c.args.begun.now c.begin.new.begun c.args.body.now c.begin.new.body c.args.window.now
    c.whole_head.new.window
    c.begin.new.window
    (λ start bytes. FindsAt start bytes (IsAtEnd (g.S.Source.left rest.new.src))
    (held_by rest.new.begun rest.new.body rest.new.window) rest.result)
    c.requires.none (c.in-Ok-Some.ensures.adds.0, c.in-Ok-Some.ensures.adds.1, c.in-Ok-Some.ensures.adds.2)
    c.in-Ok.ensures.held rest.ensures.taken

pub returns-in-Err-begin-clause-taken : goal.returns-in-Err-begin-clause-taken
returns-in-Err-begin-clause-taken g c =
    head_memory _ _ c.args.begun.now c.begin.new.begun c.args.body.now c.begin.new.body c.args.window.now
    c.whole_head.new.window
    c.begin.new.window _ c.requires.none (
      c.in-Ok-Some.ensures.adds.0,
      c.in-Ok-Some.ensures.adds.1,
      c.in-Ok-Some.ensures.adds.2,
    ) c.in-Err-begin.ensures.held

pub returns-in-Err-clause-taken : goal.returns-in-Err-clause-taken
returns-in-Err-clause-taken g c =
    head_fault _ _ c.args.begun.now c.args.body.now c.args.window.now c.whole_head.new.window _ c.in-Err.fault
    c.requires.none
    (c.in-Err.ensures.adds.0, c.in-Err.ensures.adds.1, c.in-Err.ensures.adds.2)
    c.in-Err.ensures.fault

pub returns-in-Ok-clause-ready : goal.returns-in-Ok-clause-ready
returns-in-Ok-clause-ready g c = λ held.
    let first = ready_head g.S.Source.left c.args.src.now c.whole_head.new.src c.args.begun.now c.args.body.now
    c.args.window.now c.whole_head.new.window c.requires.none held c.in-Ok-Some.ensures.adds in
    c.rest_of_request.ensures.ready
    (ready_begun c.args.begun.now c.begin.new.begun c.args.body.now c.begin.new.body c.args.window.now
    c.whole_head.new.window
    c.begin.new.window first.1 c.in-Ok.ensures.held held)
    ∙ first.0
