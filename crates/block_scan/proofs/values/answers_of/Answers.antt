use Rattle.std.proofs.Common.{◌≡◌, ◌<◌, ◌∙◌, length, ◌∷◌, ◌++◌, [], ap, arith, get_or, map, sym, take}
use Rattle.std.proofs.lemmas.List.{map_more}
use Rattle.std.proofs.lemmas.Option.{get_or_from_slice_get}
use Rattle.lq_filter.specs.Value.{field_holds}
use Rattle.block_scan.proofs.values.answers_of.Goals as goal

pub loop-i-preserved : goal.loop-i-preserved
loop-i-preserved c =
    let test = field_holds c.args.field.now in
    let texts = c.args.texts.now in
    let i = c.loop-i.i in
    let text = c.get.result.now in
    let there : get_or texts i text ≡ text = get_or_from_slice_get texts i text text c.get.ensures.value in
    let within : i < length texts = omega (arith, c.loop-i-test.true, c.len-i-end.ensures) in
    c.in_ok-push.ensures.items ∙ ap (λ l. l ++ c.in_ok-holds_text.field-0 ∷ []) c.loop-i.invariant
    ∙ ap (λ b. map test (take i texts) ++ b ∷ []) (c.in_ok-holds_text.ensures ∙ sym (ap test there))
    ∙ sym (map_more test texts i text within)
