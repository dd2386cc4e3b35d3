use Rattle.std.proofs.Common.{◌<◌, ◌∙◌, length, arith, false, get_or, sym, ℕ}
use Rattle.block_scan.proofs.Staying.{both, none_walked, walked_all}
use Rattle.block_scan.proofs.values.look_up.Goals as goal

pub loop-i-init : goal.loop-i-init
loop-i-init c = none_walked (λ (code : ℕ). get_or c.args.answers.now code false) c.args.codes.now c.args.marks.now

pub loop-i-preserved : goal.loop-i-preserved
loop-i-preserved c =
    let within : c.loop-i.i < length c.args.codes.now = omega (arith, c.loop-i-test.true, c.requires.rows) in
    sym (both (λ (code : ℕ). get_or c.args.answers.now code false) c.loop-i.i c.args.codes.now c.args.marks.now
    c.loop-i.marks c.loop-i.invariant within c.requires.rows false 0)

pub returns : goal.returns
returns c =
    c.loop-i.invariant
    ∙ walked_all (λ (code : ℕ). get_or c.args.answers.now code false) c.loop-i.i c.args.codes.now c.args.marks.now
    (omega arith) c.requires.rows
