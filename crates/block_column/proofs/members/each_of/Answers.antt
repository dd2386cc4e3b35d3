use Rattle.std.proofs.Common.{◌∙◌, ◌++◌, ◌∷◌, ◌<◌, ℕ, List, [], Bor, ap, length, map, sym, rules}
use Rattle.std.proofs.lemmas.List.{map-append}
use Rattle.block_column.proofs.Whole.{one-more}
use Rattle.block_column.proofs.members.each_of.Goals as goal

abbrev now_of : Bor (List ℕ) → List ℕ
now_of t = t.now

pub loop-i-preserved : goal.loop-i-preserved
loop-i-preserved c =
    let lt : c.loop-i.i < length c.args.texts.now = search rules in
    ap (map now_of) c.in_ok-push.ensures.items ∙ map-append now_of c.loop-i.lent.items (c.get.result ∷ [])
    ∙ ap (λ (l : List (List ℕ)). l ++ c.get.result.now ∷ []) c.loop-i.invariant
    ∙ sym (one-more c.args.texts.now c.loop-i.i c.get.result.now lt c.get.ensures.value)
