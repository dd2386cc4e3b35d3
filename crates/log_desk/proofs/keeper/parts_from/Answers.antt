use Rattle.std.proofs.Common.{◌≡◌, ◌+◌, ◌++◌, drop, length, ap, sym, subst, ◌∙◌, arith}
use Rattle.std.specs.Prelude.{Some}
use Rattle.log_model.specs.Core.{parts_of}
use Rattle.log_core.specs.Shared.{shared_parts}
use Rattle.log_desk.proofs.KeepLaws.{all_parts, one_more}
use Rattle.log_desk.proofs.keeper.parts_from.Goals as goal

pub loop-place-preserved : goal.loop-place-preserved
loop-place-preserved c =
    let all = parts_of c.args.look.now in
    ap (λ items. shared_parts items ++ drop (c.loop-place.place + 1) all) c.in_ok-push.ensures.items
    ∙ one_more c.loop-place.parts.items c.in_ok-try_clone.field-0 all (drop c.args.from all) c.loop-place.place
    (c.part.ensures ∙ ap Some (sym c.in_ok-try_clone.ensures)) c.loop-place.invariant

pub returns : goal.returns
returns c =
    let all = parts_of c.args.look.now in
    all_parts c.loop-place.parts.items all (drop c.args.from all) c.loop-place.place
    (omega (arith, c.len-place-end.ensures, c.loop-place-test.false)) c.loop-place.invariant
