use Rattle.std.proofs.Common.{Ok, ◌++◌, ◌∷◌, []}
use Rattle.std.specs.Int.{w64}
use Rattle.std.proofs.lemmas.Result.{err_from_is_err_and}
use Rattle.byte_format.specs.Format.{many, front}
use Rattle.byte_format.specs.Items.{number}
use Rattle.byte_format.proofs.Turns.{turn, turn-stops}
use Rattle.word_filter.proofs.FilterLaws.{stops-behind}
use Rattle.word_filter.proofs.skip_each.Goals as goal

pub returns-in_err-after : goal.returns-in_err-after
returns-in_err-after c =
    let p = err_from_is_err_and c.from_residual.result c.from_residual.ensures.1 in
    rw (p.1, p.2) (stops-behind c.in_err-after.field-0.0 (front (many c.args.count (number w64)) c.args.bytes.now)
    (λ filter. Ok filter.1) (turn-stops c.in_err-after.field-0.0 (number w64) c.args.count c.loop.counter
    c.loop.invariant.0 c.loop.rest.now _ c.loop-test.true c.in_err-after.ensures c.loop.invariant.1))

pub loop-preserved : goal.loop-preserved
loop-preserved c = (
  c.loop.invariant.0 ++ c.in_ok-after.field-0-0 ∷ [],
  turn (number w64) c.args.count c.loop.counter c.loop.invariant.0 c.in_ok-after.field-0-0 c.loop.rest.now
      c.in_ok-after.after.now _ c.loop-test.true c.in_ok-after.ensures c.loop.invariant.1,
)
