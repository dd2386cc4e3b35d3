use Rattle.std.proofs.Common.{◌∷◌, ◌∙◌, ◌+◌, [], ap}
use Rattle.std.specs.Prelude.{nat_lt}
use Rattle.std.proofs.lemmas.List.{length-append}
use Rattle.std.proofs.lemmas.Result.{err_from_is_err_and}
use Rattle.byte_format.proofs.Turns.{turn, turn-stops, turns-done}
use Rattle.block_column.specs.Body.{code_below}
use Rattle.block_column.proofs.BodyLaws.{one-more-passes}
use Rattle.block_column.proofs.take.take_each_code.Goals as goal

pub returns-in_err-code-clause-value : goal.returns-in_err-code-clause-value
returns-in_err-code-clause-value c =
    let p = err_from_is_err_and c.from_residual-in_err-code.result c.from_residual-in_err-code.ensures.1 in
    rw (p.1, p.2) (turn-stops c.in_err-code.field-0.0 (code_below c.args.count) c.args.rows c.loop.counter
    c.loop.codes.items c.loop.rest.now _ c.loop-test.true c.in_err-code.ensures.value c.loop.invariant.so_far)

pub loop-preserved : goal.loop-preserved
loop-preserved c =
    rw c.in_ok-push.ensures.items (record {
      so_far = turn (code_below c.args.count) c.args.rows c.loop.counter c.loop.codes.items c.in_ok-code.code
          c.loop.rest.now c.in_ok-code.after.now _ c.loop-test.true c.in_ok-code.ensures.value c.loop.invariant.so_far;
      count = length-append c.loop.codes.items (c.in_ok-code.code ∷ []) ∙ ap (λ n. n + 1) c.loop.invariant.count;
      below = one-more-passes (λ code. nat_lt code c.args.count) c.loop.codes.items c.in_ok-code.code
          c.loop.invariant.below c.in_ok-code.ensures.below;
    })

pub returns-clause-value : goal.returns-clause-value
returns-clause-value c = turns-done (code_below c.args.count) c.args.rows c.loop.counter c.loop.codes.items
    c.loop.rest.now _ c.loop-test.false c.loop.invariant.so_far
