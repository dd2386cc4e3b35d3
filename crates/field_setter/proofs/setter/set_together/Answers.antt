use Rattle.std.proofs.Common.{[], ap, ◌∙◌, reverse}
use Rattle.std.proofs.lemmas.List.{reverse-reverse}
use Rattle.std.proofs.lemmas.Result.{IfOk-weaker}
use Rattle.log_model.specs.Field.{set_all}
use Rattle.field_setter.proofs.Setting.{none_unnamed, reverse_unnamed, set_in_order}
use Rattle.field_setter.proofs.setter.set_together.Goals as goal

pub set_backwards-requires : goal.set_backwards-requires
set_backwards-requires c =
    let moved = rw c.in_ok-all.ensures.ok at c.in_ok-sorted.ensures.moved in
    reverse_unnamed c.in_ok-sorted.sorted.items c.reversed.result.items c.reversed.ensures
    (none_unnamed c.args.first c.args.late.items c.in_ok-sorted.sorted.items c.in_ok-all.ensures.rules c.requires moved)

pub returns : goal.returns
returns c =
    let moved = rw c.in_ok-all.ensures.ok at c.in_ok-sorted.ensures.moved in
    let stable = rw c.in_ok-all.ensures.ok at c.in_ok-sorted.ensures.stable in
    IfOk-weaker c.set_backwards.result _ _
    (λ list e. e ∙ ap (set_all []) (ap reverse c.reversed.ensures ∙ reverse-reverse c.in_ok-sorted.sorted.items)
    ∙ set_in_order c.args.first c.args.late.items c.in_ok-sorted.sorted.items c.in_ok-all.ensures.rules c.requires moved
    stable) c.set_backwards.ensures.value
