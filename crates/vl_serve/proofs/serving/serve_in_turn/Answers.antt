use Rattle.std.proofs.Common.{◌∙◌, ◌≡◌, ◌+◌, suc, drop, take, slice_set, subst, sym, arith}
use Rattle.log_desk.specs.Seen.{seen_of}
use Rattle.vl_serve.specs.Doors.{AreServed, IsServed, door_change, door_changes}
use Rattle.vl_serve.proofs.Ends.{as_long, bit, bit_small, goes_on_far, same_behind, same_there, served_more}
use Rattle.vl_serve.proofs.Keeps.{marks_far}
use Rattle.vl_serve.proofs.serving.serve_in_turn.Goals as goal

pub loop-door-preserved : goal.loop-door-preserved
loop-door-preserved g c =
    let change = door_change g.D.Doors.left g.D.Doors.faults in
    let olds = c.deref_mut-door-items.result.now in
    let before = c.loop-door in
    let i = before.door-index in
    let nows = before.door-items in
    let new = c.serve_door.new.door in
    let is_fault = c.serve_door.result in
    let one = bit c.from-door_faults.result is_fault c.from-door_faults.ensures in
    let next : i + 1 ≡ suc i = omega arith in
    let there = same_there i nows olds c.door-item.result before.invariant.1 in
    let served = subst (λ old. IsServed (change old new) is_fault) there c.serve_door.ensures.served in
    let more = served_more change i olds nows before.door_faults c.door-item.result new is_fault c.loop-door-test.true
    before.invariant.2 before.invariant.0 served in (
      subst (λ k. AreServed (door_changes g.D.Doors.left g.D.Doors.faults (take k olds) (take k (slice_set nows i new)))
          (before.door_faults + c.from-door_faults.result)) (sym next)
          (subst (λ n. AreServed (door_changes g.D.Doors.left g.D.Doors.faults (take (suc i) olds) (take (suc i) (slice_set nows i new)))
          (before.door_faults + n)) (sym one) more),
      subst (λ k. drop k (slice_set nows i new) ≡ drop k olds) (sym next)
          (same_behind i nows olds new before.invariant.1),
      as_long i nows new ∙ before.invariant.2,
      omega (arith, before.invariant.3, one, bit_small is_fault),
      c.serve_door.ensures.pass,
      c.serve_door.ensures.caller ∙ before.invariant.5,
      marks_far c.args.pass.now before.pass c.serve_door.new.pass before.invariant.5 before.invariant.6
          c.serve_door.ensures.mark,
      goes_on_far (seen_of c.args.pass.now) (seen_of before.pass) (seen_of c.serve_door.new.pass)
          before.invariant.7 c.serve_door.ensures.goes_on,
    )
