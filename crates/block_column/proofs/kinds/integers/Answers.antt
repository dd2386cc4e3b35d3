use Rattle.std.proofs.Common.{◌∙◌, ℕ, ℤ, List, [], Bor, FitsSigned, Some, w64, to_z, of_z, sym, ap, rules}
use Rattle.std.proofs.lemmas.Int.{to_z-of_z}
use Rattle.block_column.proofs.KindLaws.{integers-more, no-integer}
use Rattle.block_column.proofs.kinds.integers.Goals as goal

pub returns-in_default : goal.returns-in_default
returns-in_default c =
    let none : Bor (List ℕ) = record { ref_ptr = (0, 0); now = [] } in
    no-integer (λ t. t.now) c.args.values.now c.loop-value.value-index none c.loop-value-test.true
    (sym c.number.ensures.value ∙ c.in_default.is)

pub loop-value-preserved : goal.loop-value-preserved
loop-value-preserved c =
    let none : Bor (List ℕ) = record { ref_ptr = (0, 0); now = [] } in
    let small : FitsSigned w64 c.in-Some.int = search rules in
    let more = integers-more (λ t. t.now) c.args.values.now c.loop-value.value-index none c.loop-value.ints.items
    (to_z w64 (of_z w64 c.in-Some.int)) c.loop-value-test.true c.loop-value.invariant.are
    c.loop-value.invariant.so_far
    (sym c.number.ensures.value ∙ c.in-Some.is ∙ ap (λ (n : ℤ). Some n) (sym (to_z-of_z w64 c.in-Some.int small))) in
    rw c.in_ok-push.ensures.items (record { are = more.0; so_far = more.1 })
