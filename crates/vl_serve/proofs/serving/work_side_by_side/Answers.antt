use Rattle.std.proofs.Common.{subst}
use Rattle.vl_serve.specs.Doors.{door_change}
use Rattle.vl_serve.specs.Workers.{HasWorked}
use Rattle.vl_serve.proofs.Ends.{zip_by_index}
use Rattle.vl_serve.proofs.serving.work_side_by_side.Goals as goal

pub returns : goal.returns
returns g c =
    let change = door_change g.D.Doors.left g.D.Doors.faults in
    zip_by_index (HasWorked change) c.args.workers.now c.for_each_mut.new.s c.for_each_mut.auto.s
    (λ i d small.
    let changed = (c.for_each_mut.ensures i d small).1 in
    subst (HasWorked change _) changed.left
    (subst (λ old. HasWorked change old changed.after_call.now) changed.argument_is changed.call))
