use Rattle.std.proofs.Common.{◌≡◌, ◌∙◌, Bool, ℕ, List, true, ap, subst, sym, take}
use Rattle.std.specs.List.{list_all}
use Rattle.std.proofs.lemmas.List.{take_all}
use Rattle.block_column.proofs.Listed.{AreThere, all-used}
use Rattle.block_column.proofs.dictionary.are_all_used.Goals as goal

pub returns : goal.returns
returns c all =
    let marked : list_all (λ (is_used : Bool). is_used) c.loop-code.used.items ≡ true = ap (list_all (λ (is_used : Bool). is_used))
    (sym c.as_slice.ensures.value) ∙ sym c.are_true-all.ensures ∙ all in
    let whole : take c.loop-code.code-index c.args.codes.now ≡ c.args.codes.now = take_all c.loop-code.code-index
    c.args.codes.now c.loop-code-test.false in
    all-used c.loop-code.used.items c.args.codes.now c.args.count c.loop-code.invariant.len marked
    (subst (λ (l : List ℕ). AreThere c.loop-code.used.items l) whole c.loop-code.invariant.there)
