use Rattle.std.proofs.Common.{◌≡◌, ℤ, List, ℕ, Some, sym, ap, subst, ◌∙◌, FitsSigned, w64, arith}
use Rattle.std.proofs.lemmas.Bool.{iff_false}
use Rattle.std.proofs.lemmas.Int.{ints, to_z-of_z}
use Rattle.syslog_in.specs.Message.{IsTimestamp}
use Rattle.syslog_in.proofs.Timestamps.{no_time, moment_only, moment_stands}
use Rattle.syslog_in.proofs.header.time.Goals as goal

pub returns-in-Some-clause-some : goal.returns-in-Some-clause-some
returns-in-Some-clause-some c =
    let moment = c.in-Some.moment in
    let fits : FitsSigned w64 moment = omega (arith, ints) in
    moment_stands c.args.text.now c.cut.result.1.now moment _ (to_z-of_z w64 moment fits) c.cut.ensures.rest
    (subst (λ (t : List ℕ). IsTimestamp t moment) c.cut.ensures.part c.in-Some.ensures.some)

pub returns-in-Some-clause-only : goal.returns-in-Some-clause-only
returns-in-Some-clause-only c = λ time rest stands.
    let moment = c.in-Some.moment in
    let fits : FitsSigned w64 moment = omega (arith, ints) in
    let found = moment_only c.args.text.now moment (λ e. iff_false c.is_nil.ensures c.if-is_nil.false
    (c.cut.ensures.part ∙ e))
    (subst (λ (t : List ℕ). (other : ℤ) → IsTimestamp t other
    → other ≡ moment) c.cut.ensures.part c.in-Some.ensures.only)
    time rest stands in
    (found.0 ∙ ap Some (sym (to_z-of_z w64 moment fits)), found.1 ∙ sym c.cut.ensures.rest)

pub returns-in-None-clause-none : goal.returns-in-None-clause-none
returns-in-None-clause-none c =
    no_time c.args.text.now (λ e. iff_false c.is_nil.ensures c.if-is_nil.false (c.cut.ensures.part ∙ e))
    (subst (λ (t : List ℕ). (moment : ℤ) → IsTimestamp t moment → ⊥) c.cut.ensures.part c.in-None.ensures.none)
