use Rattle.std.proofs.Common.{◌≡◌, ◌≢◌, zero, suc, ℤ, pos, negsuc, of_z, FitsSigned, Option, None, Some, SomeIff, false}
use Rattle.std.proofs.Common.{arith, refl}
use Rattle.std.proofs.lemmas.Grind.{common_steps}
use Rattle.std.proofs.lemmas.Int.{to_z-of_z}
use Rattle.std.specs.Int.{CanDivide, IsNonZero, w64}
use Rattle.std.specs.Ordering.{int_eq}
use Rattle.std.specs.Prelude.{int_div}
use Rattle.lq_ast.specs.declared.row_pipe.Op.TheVariants.{Div}
use Rattle.row_pipes.proofs.math.operated.Goals as goal

-- What fits is all that a division asks where it is not one by zero.
divided : (number : Option ℤ) (a b quotient : ℤ) → IsNonZero w64 b → SomeIff number (CanDivide w64 a b) quotient
    → SomeIff number (FitsSigned w64 (int_div a b)) quotient
divided None a b quotient nonzero h = λ fits. h (nonzero, fits)
divided (Some x) a b quotient nonzero h = (h.0.1, h.1)

not_zero : (b : ℤ) → of_z w64 b ≢ 0 → int_eq b (pos 0) ≡ false
not_zero (pos zero) h = absurd (h refl)
not_zero (pos (suc n)) h = grind (arith, common_steps)
not_zero (negsuc n) h = refl

pub returns-in-Div-2 : goal.returns-in-Div-2
returns-in-Div-2 c = λ name.
    let is_div : c.args.op ≡ Div = cc in
    let left : FitsSigned w64 c.args.left = c.ranges.left in
    let right : FitsSigned w64 c.args.right = c.ranges.right in
    let nonzero : IsNonZero w64 c.args.right = omega arith in
    let checked = simp to_z-of_z at c.checked_div.ensures in
    rw (is_div, not_zero c.args.right c.if-right-eq0.false)
    (c.in_range.ensures name (int_div c.args.left c.args.right)
    (divided c.checked_div.result c.args.left c.args.right (int_div c.args.left c.args.right) nonzero checked))
