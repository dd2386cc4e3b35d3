use Rattle.std.proofs.Common.{Some, ap, sym, ◌∙◌}
use Rattle.log_model.specs.Core.{parts_of}
use Rattle.log_core.specs.Shared.{shared_parts}
use Rattle.log_desk_tests.proofs.FirstParts.{one_more}
use Rattle.log_desk_tests.proofs.parts_tests.first_parts.Goals as goal

pub loop-place-preserved : goal.loop-place-preserved
loop-place-preserved c =
    ap shared_parts c.in_ok-push.ensures.items
    ∙ one_more c.loop-place.parts.items c.in_ok-try_clone.field-0 (parts_of c.args.look.now) c.loop-place.place
    c.loop-place.invariant (c.part.ensures ∙ ap Some (sym c.in_ok-try_clone.ensures))
