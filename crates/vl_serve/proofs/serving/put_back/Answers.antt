use Rattle.std.proofs.Common.{◌∙◌, ◌+◌, ap, subst, sym, arith, length}
use Rattle.std.specs.Vec.Iter.{into_iter_items}
use Rattle.log_desk.specs.Seen.{seen_of}
use Rattle.vl_serve.specs.Doors.{door_change}
use Rattle.vl_serve.proofs.Ends.{HaveLeft, bit, bit_small, goes_on_far, one_if, one_more_left}
use Rattle.vl_serve.proofs.Keeps.{marks_far}
use Rattle.vl_serve.proofs.serving.put_back.Goals as goal

pub loop-worker-preserved : goal.loop-worker-preserved
loop-worker-preserved g c =
    let change = door_change g.D.Doors.left g.D.Doors.faults in
    let all = into_iter_items c.into_iter-worker-iterator.result in
    let rest = into_iter_items c.next.new.self in
    let before = c.loop-worker in
    let given = c.in-Some.ensures.steps.0 in
    let is_fault = c.finish-door.result.1 in
    let one = bit c.from-door_faults.result is_fault c.from-door_faults.ensures in
    let left = subst (λ workers. HaveLeft change all workers before.doors.items before.door_faults) given before.invariant.2 in
    let more = one_more_left change all rest c.in-Some.worker before.doors.items before.door_faults
    c.finish-door.result.0 is_fault left c.finish-door.ensures.ended in (
      tt,
      tt,
      subst (λ n. HaveLeft change all rest c.push.new.self.items (before.door_faults + n)) (sym one)
          (subst (λ doors. HaveLeft change all rest doors (before.door_faults + one_if is_fault))
          (sym c.in-Ok.ensures.items) more),
      omega (arith, before.invariant.3, ap length given, c.in-Ok.ensures.len, c.in-Ok.ensures.capacity),
      omega (arith, before.invariant.4, one, bit_small is_fault, c.in-Ok.ensures.len),
      c.finish-door.ensures.pass,
      c.finish-door.ensures.caller ∙ before.invariant.6,
      marks_far c.args.pass.now before.pass c.finish-door.new.pass before.invariant.6 before.invariant.7
          c.finish-door.ensures.mark,
      goes_on_far (seen_of c.args.pass.now) (seen_of before.pass) (seen_of c.finish-door.new.pass)
          before.invariant.8 c.finish-door.ensures.goes_on,
    )
