use Rattle.std.proofs.Common.{◌≡◌, ◌∙◌, ◌&&◌, FitsSigned, ap, arith, false, get_or, sym, w64, rules}
use Rattle.std.specs.Prelude.{slice_set}
use Rattle.std.proofs.lemmas.Int.{to_z-of_z}
use Rattle.std.proofs.lemmas.Option.{get_or_from_slice_get}
use Rattle.block_scan.proofs.Staying.{both, none_walked, walked_all}
use Rattle.block_scan.proofs.ends.keep_ints.Goals as goal

pub loop-i-init : goal.loop-i-init
loop-i-init c = λ test same. none_walked test c.args.ints.now c.args.marks.now

pub loop-i-preserved : goal.loop-i-preserved
loop-i-preserved c = λ test same.
    let int = c.get.result in
    let fits : FitsSigned w64 int = search rules in
    let found : c.has.result ≡ test int = (simp to_z-of_z at c.has.ensures) ∙ same int fits in
    let there : get_or c.args.ints.now c.loop-i.i int ≡ int =
    get_or_from_slice_get c.args.ints.now c.loop-i.i int int c.get.ensures in
    ap (λ b. slice_set c.loop-i.marks c.loop-i.i (get_or c.loop-i.marks c.loop-i.i false && b))
    (found ∙ sym (ap test there))
    ∙ sym (both test c.loop-i.i c.args.ints.now c.args.marks.now c.loop-i.marks (c.loop-i.invariant test same)
    (omega arith) (omega arith) false int)

pub returns : goal.returns
returns c = λ test same.
    c.loop-i.invariant test same
    ∙ walked_all test c.loop-i.i c.args.ints.now c.args.marks.now (omega arith) (omega arith)
