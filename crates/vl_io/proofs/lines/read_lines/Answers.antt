use Rattle.std.proofs.Common.{◌≡◌, ◌+◌, ◌<◌, length, take, Result, Ok, Err, OnErr, sym, ap, subst, ◌∙◌, arith, length-append}
use Rattle.std.proofs.lemmas.List.{take_rest}
use Rattle.std.specs.Prelude.{count_by}
use Rattle.vl_io.specs.Lines.{is_feed}
use Rattle.vl_io.proofs.Feeds.{counted_before, fewer, lines_after}
use Rattle.vl_io.proofs.Laws.{AddsPiece-trans, Consumes-trans}
use Rattle.vl_io.proofs.lines.read_lines.Goals as goal

on_err : {T E : Type 0} (result : Result T E) (P : Type 0) → P → OnErr result P
on_err (Ok x) P p = tt
on_err (Err e) P p = p

pub returns-in-Ok-clause-place : goal.returns-in-Ok-clause-place
returns-in-Ok-clause-place g c =
    let before = c.pieces.invariant in
    let here = rw (take_rest c.deref.result.now c.pieces.seen, c.deref.ensures.value) at c.in-Ok.ensures.ok in
    let all = lines_after c.pieces.bytes.items c.pieces.seen c.in-Ok.end c.pieces.missing c.args.lines before.counted before.seen here.0 here.1 in
    (all.0, omega (arith, before.tail), all.1)

pub returns-in_err-read_piece-clause-fewer : goal.returns-in_err-read_piece-clause-fewer
returns-in_err-read_piece-clause-fewer g c =
    let rest = rw (take_rest c.deref.result.now c.pieces.seen, c.deref.ensures.value) at c.in-Err.ensures.err in
    let all = fewer c.pieces.bytes.items c.pieces.seen c.pieces.missing c.in-Err.fewer c.args.lines c.pieces.invariant.counted rest.1 in
    let few : count_by is_feed c.read_piece.new.bytes.items < c.args.lines = omega
    (arith, rest.0, all, ap (count_by is_feed) c.in_err-read_piece.ensures.err) in
    on_err _ _ few

pub returns-in_err-read_piece-clause-long : goal.returns-in_err-read_piece-clause-long
returns-in_err-read_piece-clause-long g c = λ is_long.
    let same = rw is_long at c.from_residual.ensures.1 in
    let long = c.in_err-read_piece.ensures.long (ap Err (sym same)) in
    let before = c.pieces.invariant.adds in (
      omega (
        arith,
        ap length c.in_err-read_piece.ensures.err,
        long.0,
        c.pieces.bytes.ok.0,
        c.read_piece.new.bytes.ok.0,
      ),
      before.0,
      long.1,
      Consumes-trans _ _ _ _ _ before.1 long.2,
      c.in_err-read_piece.ensures.err ∙ before.2,
      long.3,
    )

pub returns-then-not-branch-clause-place : goal.returns-then-not-branch-clause-place
returns-then-not-branch-clause-place g c =
    let before = c.pieces.invariant in
    let rest = rw (take_rest c.deref.result.now c.pieces.seen, c.deref.ensures.value) at c.in-Err.ensures.err in
    let all = fewer c.pieces.bytes.items c.pieces.seen c.pieces.missing c.in-Err.fewer c.args.lines before.counted rest.1 in
    let end = c.in_ok-read_piece.ensures.end (ap Ok c.if-not-branch.true) in
    (omega (arith, rest.0, all, ap (count_by is_feed) end.1), end.0)

pub pieces-preserved : goal.pieces-preserved
pieces-preserved g c =
    let before = c.pieces.invariant in
    let piece = c.in_ok-read_piece.ensures in
    let rest = rw (take_rest c.deref.result.now c.pieces.seen, c.deref.ensures.value) at c.in-Err.ensures.err in
    let all = fewer c.pieces.bytes.items c.pieces.seen c.pieces.missing c.in-Err.fewer c.args.lines before.counted rest.1 in
    let adds = piece.adds (λ e. cc) in
    record {
      room = omega (arith, before.room, c.read_piece.auto.buffer);
      within = piece.limited;
      seen = omega (
        arith,
        c.len-seen.ensures,
        c.pieces.bytes.ok.0,
        ap length adds.2,
        length-append c.pieces.bytes.items adds.0,
      );
      tail = omega (arith, c.len-seen.ensures, piece.few, c.read_piece.auto.buffer);
      missing = rest.0;
      counted = subst (λ n. count_by is_feed (take n c.read_piece.new.bytes.items) + c.in-Err.fewer ≡ c.args.lines)
          (sym (c.len-seen.ensures ∙ c.pieces.bytes.ok.0))
          (counted_before c.pieces.bytes.items c.read_piece.new.bytes.items adds.0 c.in-Err.fewer c.args.lines adds.2 all);
      adds = AddsPiece-trans _ _ _ _ _ _ before.adds adds;
      stays = omega (arith, before.stays, piece.faults);
    }
