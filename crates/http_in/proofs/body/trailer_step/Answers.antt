use Rattle.std.proofs.Common.{◌≡◌, ◌+◌, arith, refl}
use Rattle.http_in.specs.Limits.{place}
use Rattle.http_in.specs.Progress.{progress_of}
use Rattle.http_in.proofs.MoveLemmas.{asks_at, moves_trailer}
use Rattle.http_in.specs.declared.stage.Stage.TheVariants as stages
use Rattle.http_in.proofs.body.trailer_step.Goals as goal

pub returns-clause-moved : goal.returns-clause-moved
returns-clause-moved g c =
    let m = c.in-Ok.ensures.adds in
    let there : c.saturating_add-body.result ≡ place (c.args.body.now.place + c.in-Ok.len) =
    omega (arith, c.saturating_add-body.ensures) in (
      m.0,
      m.1,
      moves_trailer (progress_of c.args.body.now c.args.window.now) _ m.0 c.whole_trailer.new.window c.in-Ok.len
          c.requires.at refl
          refl refl m.2 c.in-Ok.ensures.found c.use_up.ensures there,
      asks_at c.args.body.now.stage stages.Trailer c.args.window.now m.0 c.args.src.now c.whole_trailer.new.src
          c.requires.at
          m.3,
    )
