use Rattle.std.proofs.Common.{◌≡◌, ◌∙◌, ◌&&◌, FitsSigned, ap, arith, false, get_or, pos, sym, w64, rules}
use Rattle.std.specs.Prelude.{slice_set}
use Rattle.std.proofs.lemmas.Int.{to_z-of_z}
use Rattle.lq_ast.specs.Holds.{is_within}
use Rattle.block_scan.proofs.Staying.{both, none_walked, walked_all}
use Rattle.block_scan.proofs.ends.keep_each_time.Goals as goal

pub loop-i-init : goal.loop-i-init
loop-i-init c = none_walked (is_within c.args.ends.now.low c.args.ends.now.high) c.args.times.now c.args.marks.now

pub loop-i-preserved : goal.loop-i-preserved
loop-i-preserved c =
    let test = is_within c.args.ends.now.low c.args.ends.now.high in
    let time = get_or c.args.times.now c.loop-i.i (pos 0) in
    let fits : FitsSigned w64 time = search rules in
    let found : c.has.result ≡ test time = simp to_z-of_z at c.has.ensures in
    ap (λ b. slice_set c.loop-i.marks c.loop-i.i (get_or c.loop-i.marks c.loop-i.i false && b)) found
    ∙ sym (both test c.loop-i.i c.args.times.now c.args.marks.now c.loop-i.marks c.loop-i.invariant (omega arith)
    (omega arith) false (pos 0))

pub returns : goal.returns
returns c =
    c.loop-i.invariant
    ∙ walked_all (is_within c.args.ends.now.low c.args.ends.now.high) c.loop-i.i c.args.times.now c.args.marks.now
    (omega arith) (omega arith)
