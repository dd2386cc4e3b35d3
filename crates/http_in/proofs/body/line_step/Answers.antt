use Rattle.std.proofs.Common.{◌≡◌, ◌+◌, arith, refl}
use Rattle.http_in.specs.Limits.{place}
use Rattle.http_in.specs.Progress.{progress_of}
use Rattle.http_in.proofs.MoveLemmas.{asks_at, moves_last, moves_line}
use Rattle.http_in.specs.declared.stage.Stage.TheVariants as stages
use Rattle.http_in.proofs.body.line_step.Goals as goal
use Rattle.http_in.proofs.body.line_step.Goals.{in-0, in_default}

pub returns-clause-moved : goal.returns-clause-moved
returns-clause-moved g c =
    let m = c.in-Ok.ensures.adds in
    let at = c.in-Ok.line in
    let mid = c.whole_line.new.window in
    let old = progress_of c.args.body.now c.args.window.now in
    let there : c.saturating_add-body.result ≡ place (c.args.body.now.place + at.len) = omega
    (arith, c.saturating_add-body.ensures) in (
      m.0,
      m.1,
      elim c.match-line.branch [
        | in-0 w ↦ moves_last old _ m.0 mid at c.requires.at w.body-is refl refl m.2 c.in-Ok.ensures.found
            (omega arith) c.use_up.ensures there
        | in_default w ↦ moves_line old _ m.0 mid at c.requires.at w.body-is refl refl m.2 c.in-Ok.ensures.found
            (omega arith) c.use_up.ensures there
      ],
      asks_at c.args.body.now.stage stages.Line c.args.window.now m.0 c.args.src.now c.whole_line.new.src c.requires.at
          m.3,
    )
