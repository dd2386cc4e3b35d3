use Rattle.std.proofs.Common.{ap, rules, subst, sym, ◌∙◌}
use Rattle.std.specs.Arc.{arc_value}
use Rattle.turn_lock.specs.Entries.{whats}
use Rattle.turn_lock.specs.Passes.{Finds, after_turn}
use Rattle.log_core.specs.Entries.{stands_for}
use Rattle.log_core.specs.Faults.{commit_fault}
use Rattle.log_desk.proofs.PreparedLaws.{IsPartOf, prepared_batch, returned}
use Rattle.log_desk.proofs.TurnLaws.{inserted, is_committed, stands_left}
use Rattle.log_desk.proofs.desk.Desk.insert_prepared.Goals as goal

pub commit-requires-clause-value : goal.commit-requires-clause-value
commit-requires-clause-value g c =
    let part = arc_value c.prepared.inside.part in
    let held = subst (IsPartOf part) c.prepared.view_is (prepared_batch part c.prepared.invariant) in
    let done = is_committed part c.args.prepared (whats c.enter-turn.result.pass.now.seen) _
    c.value-shelf.result.now c.commit_shared.new.self held.some held.are
    c.in-Ok.ensures.held c.in-Ok.ensures.stands
    (subst (λ s. stands_for (λ rows. rows) s (whats c.enter-turn.result.pass.now.seen))
    (sym c.value-shelf.ensures.value) c.enter-turn.ensures.value.0) in
    done.stands

pub leave-requires-clause-value : goal.leave-requires-clause-value
leave-requires-clause-value g c =
    let part = arc_value c.prepared.inside.part in
    let held = subst (IsPartOf part) c.prepared.view_is (prepared_batch part c.prepared.invariant) in
    let done = is_committed part c.args.prepared (whats c.enter-turn.result.pass.now.seen) _
    c.value-shelf.result.now c.commit_shared.new.self held.some held.are
    c.in-Ok.ensures.held c.in-Ok.ensures.stands
    (subst (λ s. stands_for (λ rows. rows) s (whats c.enter-turn.result.pass.now.seen))
    (sym c.value-shelf.ensures.value) c.enter-turn.ensures.value.0) in
    stands_left c.args.prepared c.commit_shared.new.self c.commit.new.self.value c.enter-turn.result.pass.now
    c.commit.new.self.pass.now done c.commit.ensures.same.2 c.commit.ensures.pass

pub returns-in-Ok-clause-inserted : goal.returns-in-Ok-clause-inserted
returns-in-Ok-clause-inserted g c =
    let part = arc_value c.prepared.inside.part in
    let held = subst (IsPartOf part) c.prepared.view_is (prepared_batch part c.prepared.invariant) in
    let inside = c.enter-turn.result.pass.now in
    let stands = subst (λ s. stands_for (λ rows. rows) s (whats inside.seen)) (sym c.value-shelf.ensures.value)
    c.enter-turn.ensures.value.0 in
    let done = is_committed part c.args.prepared (whats inside.seen) _ c.value-shelf.result.now
    c.commit_shared.new.self held.some held.are
    c.in-Ok.ensures.held c.in-Ok.ensures.stands stands in
    inserted c.args.prepared c.in-Ok.number c.value-shelf.result.now c.commit_shared.new.self c.args.pass.now inside
    c.leave.new.self.0
    (subst (λ pass. Finds pass inside) c.pass.view_is c.enter-turn.ensures.finds)
    (c.leave.ensures ∙ ap after_turn c.commit.ensures.pass) stands done
    (ap (λ s. s.settled) c.value-shelf.ensures.value ∙ c.enter-turn.ensures.value.1) c.in-Ok.ensures.number
    (search rules) c.in-Ok.ensures.accepted

pub invariant_of-result : goal.invariant_of-result
invariant_of-result g c =
    (returned (commit_fault c.value-shelf.result.now) (arc_value c.prepared.inside.part) (arc_value c.in-Err.part)
    c.in-Err.fault c.in-Err.ensures.refused c.prepared.invariant).0

pub returns-in-Err-clause-returned : goal.returns-in-Err-clause-returned
returns-in-Err-clause-returned g c =
    (returned (commit_fault c.value-shelf.result.now) (arc_value c.prepared.inside.part) (arc_value c.in-Err.part)
    c.in-Err.fault c.in-Err.ensures.refused c.prepared.invariant).1
    ∙ c.prepared.view_is
