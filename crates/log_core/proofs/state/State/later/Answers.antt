use Rattle.std.proofs.Common.{◌≡◌, ◌+◌, ◌-◌, ◌++◌, ◌≤◌, ap, arith, drop, length, map, subst, sym, ◌∙◌}
use Rattle.std.specs.Arc.{arc_value}
use Rattle.std.specs.Vec.{vec_len}
use Rattle.std.proofs.lemmas.List.{length-map}
use Rattle.log_core.specs.Shared.{AreChunks, joined, lists_in, shared_parts}
use Rattle.log_core.proofs.Chunks.{left_after, left_of_early, lists_in-same, parts_left}
use Rattle.log_core.proofs.state.State.later.Goals as goal

pub returns-then-gone-len-clause-parts : goal.returns-then-gone-len-clause-parts
returns-then-gone-len-clause-parts g c =
    let early = arc_value c.self.inside.early in
    let now = c.deref-early.result.now in
    let slice = c.as_slice.ensures.value ∙ ap (λ e. e.others.items) c.deref-early.ensures in
    let long : length (shared_parts early.others.items) ≡ vec_len now.others =
    length-map early.others.items arc_value ∙ ap (λ e. length e.others.items) (sym c.deref-early.ensures)
    ∙ sym now.others.ok.0 in
    let all = lists_in-same c.in_ok-chunks.chunks.items c.self.inside.chunks.items
    (c.in_ok-chunks.ensures ∙ ap (map arc_value) c.as_slice-then-gone-len.ensures.value) in
    left_of_early (shared_parts early.others.items) (shared_parts c.in_ok-others.others.items)
    (lists_in c.self.inside.chunks.items) (lists_in c.in_ok-chunks.chunks.items) c.args.gone c.args.self.now.unsettled
    (ap (λ h. h.unsettled) c.self.view_is) (omega (arith, c.if-gone-len.true, c.len.ensures, long))
    (parts_left early.others.items c.in_ok-others.others.items c.args.gone
    (c.in_ok-others.ensures ∙ ap (λ items. map arc_value (drop c.args.gone items)) slice)) all

pub returns-then-gone-len-clause-chunked : goal.returns-then-gone-len-clause-chunked
returns-then-gone-len-clause-chunked g c =
    let all = lists_in-same c.in_ok-chunks.chunks.items c.self.inside.chunks.items
    (c.in_ok-chunks.ensures ∙ ap (map arc_value) c.as_slice-then-gone-len.ensures.value) in
    subst AreChunks (sym all) c.self.invariant.chunked

pub returns-clause-parts : goal.returns-clause-parts
returns-clause-parts g c =
    let early = arc_value c.self.inside.early in
    let now = c.deref-early.result.now in
    let long : length (shared_parts early.others.items) ≡ vec_len now.others =
    length-map early.others.items arc_value ∙ ap (λ e. length e.others.items) (sym c.deref-early.ensures)
    ∙ sym now.others.ok.0 in
    left_after (shared_parts early.others.items)
    (shared_parts c.in_ok-others-2.others.items ++ joined (lists_in c.in_ok-others-2.chunks.items))
    (lists_in c.self.inside.chunks.items) c.args.gone (c.args.gone - c.len-2.result) c.args.self.now.unsettled
    (ap (λ h. h.unsettled) c.self.view_is)
    (omega (arith, c.if-gone-len.false, c.len.ensures, c.len-2.ensures, long))
    (c.in_ok-others-2.ensures.parts
    ∙ ap (λ ls. drop (c.args.gone - c.len-2.result) (joined (lists_in ls))) c.as_slice-2.ensures.value)
