use Rattle.std.proofs.Common.{◌≡◌, ◌-◌, to_z, of_z, w64, FitsSigned, rules, Ok}
use Rattle.std.proofs.lemmas.Result.{err_from_is_err_and}
use Rattle.std.proofs.lemmas.Int.{to_z-of_z}
use Rattle.byte_format.specs.Format.{front, many, repeated, one_more}
use Rattle.byte_format.specs.Gives.{Stops}
use Rattle.byte_format.proofs.Turns.{turn, turn-stops, turns-done}
use Rattle.col_codec.specs.Ints.{int_above}
use Rattle.col_codec.specs.Widths.{bits_of}
use Rattle.col_codec.proofs.int_read.take_each.Goals as goal

pub returns-in_err-sum : goal.returns-in_err-sum
returns-in_err-sum c =
    let p = err_from_is_err_and c.from_residual-in_err-sum.result c.from_residual-in_err-sum.ensures.1 in
    let l = to_z-of_z w64 c.args.least c.ranges.least in
    let so_far : front (repeated (c.args.rows - c.loop.counter) (one_more (int_above
    (bits_of c.args.width) c.args.least)) c.loop.ints.items) c.loop.rest.now
    ≡ front (many c.args.rows (int_above (bits_of c.args.width) c.args.least)) c.args.bytes.now = simp l at
    c.loop.invariant in
    let here : Stops c.in_err-sum.field-0.0 (front (int_above
    (bits_of c.args.width) c.args.least) c.loop.rest.now) = simp l at c.in_err-sum.ensures in
    rw (p.1, p.2) (turn-stops c.in_err-sum.field-0.0 (int_above
    (bits_of c.args.width) c.args.least) c.args.rows c.loop.counter c.loop.ints.items c.loop.rest.now (front
    (many c.args.rows (int_above (bits_of c.args.width) c.args.least)) c.args.bytes.now) c.loop-test.true here
    so_far)

pub loop-preserved : goal.loop-preserved
loop-preserved c =
    let l = to_z-of_z w64 c.args.least c.ranges.least in
    let small : FitsSigned w64 c.in_ok-sum.sum = search rules in
    let s = to_z-of_z w64 c.in_ok-sum.sum small in
    let here : front (int_above (bits_of c.args.width) (to_z w64 (of_z w64 c.args.least))) c.loop.rest.now
    ≡ Ok (to_z w64 (of_z w64 c.in_ok-sum.sum), c.in_ok-sum.after.now) = simp (l, s) (simp
    (l, s) at c.in_ok-sum.ensures) in
    rw c.in_ok-push.ensures.items (turn (int_above (bits_of c.args.width) (to_z w64
    (of_z w64 c.args.least))) c.args.rows c.loop.counter c.loop.ints.items (to_z w64
    (of_z w64 c.in_ok-sum.sum)) c.loop.rest.now c.in_ok-sum.after.now _ c.loop-test.true here c.loop.invariant)

pub returns : goal.returns
returns c =
    let l = to_z-of_z w64 c.args.least c.ranges.least in
    let so_far : front (repeated (c.args.rows - c.loop.counter) (one_more (int_above
    (bits_of c.args.width) c.args.least)) c.loop.ints.items) c.loop.rest.now
    ≡ front (many c.args.rows (int_above (bits_of c.args.width) c.args.least)) c.args.bytes.now = simp l at
    c.loop.invariant in
    turns-done (int_above (bits_of c.args.width) c.args.least) c.args.rows c.loop.counter c.loop.ints.items
    c.loop.rest.now (front (many c.args.rows (int_above
    (bits_of c.args.width) c.args.least)) c.args.bytes.now) c.loop-test.false so_far
