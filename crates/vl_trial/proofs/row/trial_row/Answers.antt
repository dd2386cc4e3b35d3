use Rattle.std.proofs.Common.{◌≡◌, ◌∙◌, pos, to_z, w64, arith}
use Rattle.std.proofs.lemmas.Bool.{false≢true}
use Rattle.std.proofs.lemmas.Int.{ints}
use Rattle.vl_trial.specs.Trial.{moment_of}
use Rattle.vl_trial.proofs.Drawing.{faultless, row_drawn}
use Rattle.vl_trial.proofs.row.trial_row.Goals as goal

pub returns-in-Ok : goal.returns-in-Ok
returns-in-Ok c =
    let time : to_z w64 (moment_of c.args.number) ≡ pos (moment_of c.args.number) = omega (arith, ints) in
    rw (time, c.requires.labels, c.in_ok-fields.ensures) at c.in-Ok.ensures.ok.1 ∙ row_drawn c.args.number c.args.draw

pub prove-unreachable-requires : goal.prove-unreachable-requires
prove-unreachable-requires c =
    let time : to_z w64 (moment_of c.args.number) ≡ pos (moment_of c.args.number) = omega (arith, ints) in
    let none = faultless (moment_of c.args.number) c.args.number c.args.draw (omega arith) in
    let fault = rw (time, c.in_ok-fields.ensures, none) at c.in-Err.ensures.err.0 in
    false≢true (rw fault at c.if-prove.ensures)
