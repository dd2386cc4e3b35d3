use Rattle.std.proofs.Common.{◌≡◌, ◌∷◌, ◌++◌, ◌∙◌, ◌+◌, ℕ, List, Bor, [], ap, arith, length, map}
use Rattle.std.specs.Int.{w16}
use Rattle.std.proofs.lemmas.List.{length-append, map-append}
use Rattle.std.proofs.lemmas.List.Sums.{sum_by_push}
use Rattle.std.proofs.lemmas.Result.{err_from_is_err_and}
use Rattle.byte_format.specs.Items.{text}
use Rattle.byte_format.proofs.Turns.{turn, turn-stops, turns-done}
use Rattle.block_column.proofs.take.take_lent.Goals as goal

abbrev now_of : Bor (List ℕ) → List ℕ
now_of t = t.now

pub returns-in_err-text-clause-value : goal.returns-in_err-text-clause-value
returns-in_err-text-clause-value c =
    let p = err_from_is_err_and c.from_residual-in_err-text.result c.from_residual-in_err-text.ensures.1 in
    rw (p.1, p.2) (turn-stops c.in_err-text.field-0.0 (text w16) c.args.count c.loop.counter
    (map now_of c.loop.texts.items) c.loop.rest.now _ c.loop-test.true c.in_err-text.ensures.value
    c.loop.invariant.so_far)

pub loop-preserved : goal.loop-preserved
loop-preserved c =
    rw c.in_ok-push.ensures.items (record {
      so_far = rw (map-append now_of c.loop.texts.items (c.in_ok-text.text ∷ []))
          (turn (text w16) c.args.count c.loop.counter (map now_of c.loop.texts.items) c.in_ok-text.text.now
          c.loop.rest.now c.in_ok-text.after.now _ c.loop-test.true c.in_ok-text.ensures.value c.loop.invariant.so_far);
      count = length-append c.loop.texts.items (c.in_ok-text.text ∷ []) ∙ ap (λ n. n + 1) c.loop.invariant.count;
      small = omega (
        arith,
        sum_by_push (λ (t : Bor (List ℕ)). length t.now) c.loop.texts.items c.in_ok-text.text,
        c.in_ok-text.ensures.short,
        c.loop.invariant.small,
      );
    })

pub returns-clause-value : goal.returns-clause-value
returns-clause-value c = turns-done (text w16) c.args.count c.loop.counter (map now_of c.loop.texts.items)
    c.loop.rest.now _ c.loop-test.false c.loop.invariant.so_far
