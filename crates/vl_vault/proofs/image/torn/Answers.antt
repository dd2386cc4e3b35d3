use Rattle.std.proofs.Common.{◌≡◌, ◌∙◌, ◌++◌, ap, sym, subst, arith, length}
use Rattle.std.proofs.lemmas.List.{length-append}
use Rattle.vl_vault.specs.Disk.{IsTorn}
use Rattle.vl_vault.specs.Calls.{overwritten}
use Rattle.vl_vault.proofs.Tearing.{torn_over, if_ok}
use Rattle.vl_vault.proofs.image.torn.Goals as goal

pub overwrite-requires : goal.overwrite-requires
overwrite-requires c =
    let e = c.in_ok-base.ensures in
    let same : length c.deref.result.now ≡ length (c.args.left.now ++ e.0) = ap length (c.deref.ensures.value ∙ e.1) in
    omega (arith, same, length-append c.args.left.now e.0, e.2)

pub returns : goal.returns
returns c =
    let e = c.in_ok-base.ensures in
    let same : c.deref.result.now ≡ c.args.left.now ++ e.0 = c.deref.ensures.value ∙ e.1 in
    let short : length c.deref-2.result.now ≡ length c.in_ok-front.front.items = ap length c.deref-2.ensures.value in
    if_ok c.overwrite.result (λ v is. subst (IsTorn c.args.at (length c.args.piece.now) c.args.left.now)
    (sym (is ∙ ap (λ b. overwritten b c.args.at c.deref-2.result.now) same))
    (torn_over c.args.left.now e.0 c.deref-2.result.now c.args.at (length c.args.piece.now) e.2 (omega (
      arith,
      short,
      c.in_ok-front.ensures,
    ))))
    c.overwrite.ensures
