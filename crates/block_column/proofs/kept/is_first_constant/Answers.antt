use Rattle.std.proofs.Common.{◌≡◌, ◌<◌, ◌∙◌, ℕ, false, ap, arith, length, sym}
use Rattle.std.specs.Prelude.{◌==◌, nat_lt}
use Rattle.std.proofs.lemmas.Bool.Decides.{nat_tests}
use Rattle.log_model.specs.Field.{is_empty}
use Rattle.block_column.proofs.KindLaws.{first-alike}
use Rattle.block_column.proofs.kept.is_first_constant.Goals as goal

some-more : (n : ℕ) → (n == 0) ≡ false → nat_lt n 1 ≡ false
some-more n e = grind (arith, nat_tests)

pub returns : goal.returns
returns c _ =
    let some : 0 < c.args.rows = omega (arith, c.if-rows-eq0.false) in
    let filled : is_empty c.args.text.now ≡ false = ap is_empty (sym c.as_str.ensures.value)
    ∙ some-more (length c.as_str.result.now) (sym c.is_empty.ensures ∙ c.if-is_empty.false) in
    first-alike c.args.text.now c.args.rows some filled c.requires
