use Rattle.std.proofs.Common.{◌≡◌, ◌∙◌, ℕ, List, [], Bor, true, false, refl, sym, rules}
use Rattle.block_column.proofs.KindLaws.{constant-tested, first-is}
use Rattle.block_column.proofs.kinds.constant.Goals as goal

pub returns-then-not-is_filled_with-clause-none : goal.returns-then-not-is_filled_with-clause-none
returns-then-not-is_filled_with-clause-none c =
    let none : Bor (List ℕ) = record { ref_ptr = (0, 0); now = [] } in
    let answer : c.is_filled_with.result ≡ false = search rules in
    constant-tested (λ t. t.now) c.args.values.now none refl ∙ sym c.is_filled_with.ensures ∙ answer

pub returns-clause-some : goal.returns-clause-some
returns-clause-some c =
    let none : Bor (List ℕ) = record { ref_ptr = (0, 0); now = [] } in
    let answer : c.is_filled_with.result ≡ true = search rules in (
      constant-tested (λ t. t.now) c.args.values.now none refl ∙ sym c.is_filled_with.ensures ∙ answer,
      first-is (λ t. t.now) c.args.values.now none refl,
    )
