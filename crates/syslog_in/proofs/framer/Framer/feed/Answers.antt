use Rattle.std.proofs.Common.{sym, ap, subst, arith, ◌∙◌}
use Rattle.syslog_in.specs.Framer.{Framing, HasTaken}
use Rattle.syslog_in.specs.Reading.{step_at, why_step}
use Rattle.syslog_in.proofs.Framers.{nothing_short, is_short_from, taken_more, completed, start_later, kept_short}
use Rattle.syslog_in.proofs.Framers.{goes_on}
use Rattle.syslog_in.proofs.Stops.{bad_takes, long_takes}
use Rattle.syslog_in.proofs.framer.Framer.feed.Goals as goal

pub invariant_of-self-in-BadLength : goal.invariant_of-self-in-BadLength
invariant_of-self-in-BadLength c = is_short_from _ (ap step_at c.clear.ensures.items ∙ nothing_short)

pub invariant_of-self-in-TooLong : goal.invariant_of-self-in-TooLong
invariant_of-self-in-TooLong c = is_short_from _ (ap step_at c.clear-in-TooLong.ensures.items ∙ nothing_short)

pub returns-in-Short-clause-taken : goal.returns-in-Short-clause-taken
returns-in-Short-clause-taken c = λ fed taken.
    let framer = subst (λ (f : Framing). HasTaken f fed) (sym c.self.view_is) taken in
    let read = c.in-Ok.ensures.ok in
    taken_more _ _ fed c.args.piece.now c.args.out.now c.read_on.new.out read.0 c.in-Ok.stop framer read.1 c.in-Short.is
    (read.2 c.in-Short.is) c.saturating_add-self-inside.ensures framer.running

pub returns-in-Short-clause-given : goal.returns-in-Short-clause-given
returns-in-Short-clause-given c = λ fed taken.
    let framer = subst (λ (f : Framing). HasTaken f fed) (sym c.self.view_is) taken in
    let read = c.in-Ok.ensures.ok in
    rw (read.2 c.in-Short.is)
    (completed _ fed c.args.piece.now c.args.out.now c.read_on.new.out read.0 c.in-Ok.stop framer read.1)

pub returns-in-BadLength-clause-fault : goal.returns-in-BadLength-clause-fault
returns-in-BadLength-clause-fault c = λ fed taken.
    let framer = subst (λ (f : Framing). HasTaken f fed) (sym c.self.view_is) taken in
    let piece = c.args.piece.now in
    let old = c.args.out.now in
    let new = c.read_on.new.out in
    let behind = c.in-BadLength.behind in
    let read = c.in-Ok.ensures.ok in
    let start = start_later _ fed piece old new read.0 c.in-Ok.stop c.saturating_add-self-inside.result framer read.1
    c.saturating_add-self-inside.ensures in (
      read.0,
      behind,
      completed _ fed piece old new read.0 c.in-Ok.stop framer read.1,
      bad_takes read.0 behind (read.1.why ∙ ap why_step c.in-BadLength.is),
      omega (arith, start, c.saturating_add-at.ensures),
    )

pub returns-in-TooLong-clause-fault : goal.returns-in-TooLong-clause-fault
returns-in-TooLong-clause-fault c = λ fed taken.
    let framer = subst (λ (f : Framing). HasTaken f fed) (sym c.self.view_is) taken in
    let piece = c.args.piece.now in
    let old = c.args.out.now in
    let new = c.read_on.new.out in
    let read = c.in-Ok.ensures.ok in
    let start = start_later _ fed piece old new read.0 c.in-Ok.stop c.saturating_add-self-inside.result framer read.1
    c.saturating_add-self-inside.ensures in (
      read.0,
      completed _ fed piece old new read.0 c.in-Ok.stop framer read.1,
      long_takes read.0 (read.1.why ∙ ap why_step c.in-TooLong.is),
      omega (arith, start),
    )

pub returns-in-Short-clause-kept : goal.returns-in-Short-clause-kept
returns-in-Short-clause-kept c = λ fed taken.
    let read = c.in-Ok.ensures.ok in
    kept_short c.read_on.new.kept.items (goes_on c.read_on.new.kept.items
    (ap step_at (read.2 c.in-Short.is) ∙ read.1.why ∙ ap why_step c.in-Short.is))
