use Rattle.std.proofs.Common.{◌∙◌, map, ap}
use Rattle.std.specs.Arc.{arc_value}
use Rattle.log_core.proofs.Chunks.{lists_in-same}
use Rattle.log_core.proofs.state.State.copied.Goals as goal

pub invariant_of-result : goal.invariant_of-result
invariant_of-result g c =
    let same = lists_in-same c.in_ok-chunks.chunks.items c.self.inside.chunks.items
    (c.in_ok-chunks.ensures ∙ ap (map arc_value) c.as_slice.ensures.value) in
    rw (c.in_ok-early.ensures, same) c.self.invariant

pub returns : goal.returns
returns g c =
    let same = lists_in-same c.in_ok-chunks.chunks.items c.self.inside.chunks.items
    (c.in_ok-chunks.ensures ∙ ap (map arc_value) c.as_slice.ensures.value) in
    rw (c.in_ok-early.ensures, same) c.self.view_is
