use Rattle.std.proofs.Common.{◌≡◌, ◌++◌, ◌+◌, ◌-◌, ℕ, List, length, take, sym, ap, subst, arith, ◌∙◌}
use Rattle.std.proofs.lemmas.List.{length-append, length-take-le}
use Rattle.std.proofs.lemmas.List.{take_rest}
use Rattle.syslog_in.specs.Framer.{place}
use Rattle.syslog_in.specs.Reading.{step_at, why_step, Reads}
use Rattle.syslog_in.proofs.Pieces.{rest_fits_in, reads_behind, begun_reads, bad_all, long_all}
use Rattle.syslog_in.proofs.reach.read_on.Goals as goal

-- what was kept and what was taken of the piece are what is read
pub overflow_sub-first : goal.overflow_sub-first
overflow_sub-first c =
    let kept = c.args.kept.now.items in
    let used = c.in_ok-used.used in
    let piece = c.args.piece.now in
    let read = ap step_at (sym c.in_ok-used.ensures.ok ∙ sym c.deref.ensures.value) ∙ sym c.in-Whole.ensures in
    let fits = rest_fits_in kept piece c.in-Whole.message.now c.in-Whole.rest.now used c.in_ok-used.ensures.bound
    c.requires read in
    omega (
      arith,
      fits,
      c.len.ensures,
      c.complete.new.kept.ok,
      ap length c.in_ok-used.ensures.ok,
      length-append kept (take used piece),
      length-take-le used piece c.in_ok-used.ensures.bound,
    )

pub overflow_sub-used : goal.overflow_sub-used
overflow_sub-used c =
    rest_fits_in c.args.kept.now.items c.args.piece.now c.in-Whole.message.now c.in-Whole.rest.now c.in_ok-used.used
    c.in_ok-used.ensures.bound c.requires
    (ap step_at (sym c.in_ok-used.ensures.ok ∙ sym c.deref.ensures.value) ∙ sym c.in-Whole.ensures)

pub returns-in_ok-stop-in-Whole-clause-ok : goal.returns-in_ok-stop-in-Whole-clause-ok
returns-in_ok-stop-in-Whole-clause-ok c =
    let kept = c.args.kept.now.items in
    let used = c.in_ok-used.used in
    let piece = c.args.piece.now in
    let read = ap step_at (sym c.in_ok-used.ensures.ok ∙ sym c.deref.ensures.value) ∙ sym c.in-Whole.ensures in
    let message = c.in-Whole.message.now in
    let rest = c.in-Whole.rest.now in
    let stop = c.in_ok-stop-in-Whole.stop in
    let left = c.in_ok-stop-in-Whole.ensures.ok in
    let middle = c.push_message.new.out in
    let new = c.read_piece-in-Whole.new.out in
    let count : c.len.result ≡ length (kept ++ take used piece) =
    omega (arith, c.len.ensures, c.complete.new.kept.ok, ap length c.in_ok-used.ensures.ok) in
    let behind = subst (λ (t : List ℕ). Reads t middle new left.0 stop) (take_rest piece
    (used - length rest)) left.1 in (
      left.0,
      reads_behind kept piece message rest used c.in_ok-used.ensures.bound c.requires read c.args.out.now middle new
          left.0 stop c.saturating_add.result c.in_ok-push_message-in-Whole.ensures.ok behind
          (c.saturating_add.ensures ∙ ap (λ (n : ℕ). place (n - length rest + stop.passed)) count),
      left.2,
    )

pub returns-in-BadLength-clause-ok : goal.returns-in-BadLength-clause-ok
returns-in-BadLength-clause-ok c = (
  c.args.kept.now.items ++ c.args.piece.now,
  begun_reads _ _ c.begun-in-BadLength.result c.begun-in-BadLength.ensures.passed
      (bad_all c.args.kept.now.items c.args.piece.now c.in_ok-used.used c.in-BadLength.at
      (ap step_at (sym c.in_ok-used.ensures.ok ∙ sym c.deref.ensures.value) ∙ sym c.in-BadLength.ensures)
      ∙ ap why_step (sym c.begun-in-BadLength.ensures.why)),
  λ e. let other = c.begun-in-BadLength.ensures.why in absurd cc,
)

pub returns-in-TooLong-clause-ok : goal.returns-in-TooLong-clause-ok
returns-in-TooLong-clause-ok c = (
  c.args.kept.now.items ++ c.args.piece.now,
  begun_reads _ _ c.begun-in-TooLong.result c.begun-in-TooLong.ensures.passed
      (long_all c.args.kept.now.items c.args.piece.now c.in_ok-used.used
      (ap step_at (sym c.in_ok-used.ensures.ok ∙ sym c.deref.ensures.value) ∙ sym c.in-TooLong.ensures)
      ∙ ap why_step (sym c.begun-in-TooLong.ensures.why)),
  λ e. let other = c.begun-in-TooLong.ensures.why in absurd cc,
)
