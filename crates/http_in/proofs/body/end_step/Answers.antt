use Rattle.std.proofs.Common.{◌≡◌, ◌+◌, arith, refl}
use Rattle.http_in.specs.Limits.{place}
use Rattle.http_in.specs.Progress.{progress_of}
use Rattle.http_in.proofs.MoveLemmas.{asks_at, moves_over_end}
use Rattle.http_in.specs.declared.stage.Stage.TheVariants as stages
use Rattle.http_in.proofs.body.end_step.Goals as goal

pub returns-in-Ok-clause-moved : goal.returns-in-Ok-clause-moved
returns-in-Ok-clause-moved g c =
    let m = c.in-Ok.ensures.ok in
    let there : c.saturating_add-body.result ≡ place (c.args.body.now.place + 2) =
    omega (arith, c.saturating_add-body.ensures) in (
      m.0,
      m.1,
      moves_over_end (progress_of c.args.body.now c.args.window.now) _ m.0 c.requires.at refl refl refl m.2
          there,
      asks_at c.args.body.now.stage stages.End c.args.window.now m.0 c.args.src.now c.line_end.new.src c.requires.at
          m.3,
    )
