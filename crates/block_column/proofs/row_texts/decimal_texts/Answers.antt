use Rattle.std.proofs.Common.{◌≡◌, ◌∙◌, ◌++◌, ◌∷◌, ◌<◌, ℕ, ℤ, FitsSigned, List, [], w64, ap, length, map, sym, take, rules}
use Rattle.std.specs.Fmt.{signed_decimal}
use Rattle.std.proofs.lemmas.Int.{to_z-of_z}
use Rattle.std.proofs.lemmas.List.{map-append}
use Rattle.block_column.proofs.Whole.{one-integer-more}
use Rattle.block_column.proofs.row_texts.decimal_texts.Goals as goal

pub loop-i-preserved : goal.loop-i-preserved
loop-i-preserved c =
    let lt : c.loop-i.i < length c.args.ints.now = search rules in
    let fits : FitsSigned w64 c.get.result = search rules in
    let text : c.in_ok-try_of.field-0 ≡ signed_decimal c.get.result = c.in_ok-try_of.ensures ∙ c.format.ensures.text
    ∙ ap signed_decimal (to_z-of_z w64 c.get.result fits) in
    let before : List ℤ = take c.loop-i.i c.args.ints.now in
    c.in_ok-push.ensures.items ∙ ap (λ (l : List (List ℕ)). l ++ c.in_ok-try_of.field-0 ∷ []) c.loop-i.invariant
    ∙ ap (λ (t : List ℕ). map signed_decimal before ++ t ∷ []) text
    ∙ sym (map-append signed_decimal before (c.get.result ∷ []))
    ∙ ap (map signed_decimal) (sym (one-integer-more c.args.ints.now c.loop-i.i c.get.result lt c.get.ensures))
