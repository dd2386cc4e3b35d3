use Rattle.std.proofs.Common.{subst, sym, arith, ap, ◌∙◌}
use Rattle.vl_pipe.specs.Window.{IsReadGroup}
use Rattle.vl_pipe.specs.declared.window.Group.{Group}
use Rattle.vl_pipe.proofs.WindowLemmas.{bodies_by_index, read_by_index}
use Rattle.vl_pipe.proofs.window.read_groups.Goals as goal

pub returns-clause-bodies : goal.returns-clause-bodies
returns-clause-bodies g c =
    bodies_by_index c.args.groups.now c.for_each_mut.new.s c.for_each_mut.auto.s
    (λ i d small.
    let changed = (c.for_each_mut.ensures i d small).1 in
    ap (λ (group : Group). group.body.items) (sym changed.left) ∙ changed.call.0
    ∙ ap (λ (group : Group). group.body.items) changed.argument_is)

pub returns-clause-read : goal.returns-clause-read
returns-clause-read g c =
    read_by_index c.args.arrival.now c.for_each_mut.new.s
    (λ i d small.
    let changed = (c.for_each_mut.ensures i d (omega (arith, small, c.for_each_mut.auto.s))).1 in
    subst (IsReadGroup c.args.arrival.now) changed.left changed.call.1)
