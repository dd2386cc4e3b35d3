use Rattle.std.proofs.Common.{◌≡◌, ◌∙◌, ℕ, zero, suc, Bool, true, List, refl, sym}
use Rattle.std.specs.Prelude.{bytes_eq, replicate}
use Rattle.std.specs.List.{list_all}
use Rattle.block_column.proofs.cells.is_filled.Goals as goal

filled : (p : List ℕ → Bool) (n : ℕ) (text : List ℕ) → p text ≡ true → list_all p (replicate n text) ≡ true
filled p zero text e = refl
filled p (suc n) text e = rw e (filled p n text e)

pub returns : goal.returns
returns c e = filled (bytes_eq c.args.text.now) c.args._rows c.args.value.now (sym c.is_value.ensures ∙ e)
