use Rattle.std.proofs.Common.{◌≡◌, ◌+◌, ◌-◌, length, arith, refl}
use Rattle.http_in.specs.Limits.{place}
use Rattle.http_in.specs.Progress.{progress_of}
use Rattle.http_in.proofs.MoveLemmas.{asks_data, moves_taken, takes_len}
use Rattle.http_in.proofs.body.data_step.Goals as goal

pub returns-then-came-left-clause-moved : goal.returns-then-came-left-clause-moved
returns-then-came-left-clause-moved g c =
    let t = c.take_data-taken.ensures.taken in
    let came = c.len.result - c.len-before.result in
    let size : length c.take_data-taken.new.bytes.items ≡ length c.args.body.now.bytes.items + came =
    omega (
      arith,
      takes_len _ _ _ _ _ t.2,
      c.len.ensures,
      c.len-before.ensures,
      c.take_data-taken.new.bytes.ok.0,
      c.args.body.now.bytes.ok.0,
    ) in
    let both : c.args.left ≡ came + (c.args.left - came) =
    omega (arith, c.take_data-taken.ensures.within, c.len.ensures, c.len-before.ensures) in
    let there : c.saturating_add-body.result ≡ place (c.args.body.now.place + came) =
    omega (arith, c.saturating_add-body.ensures) in (
      t.0,
      t.1,
      moves_taken (progress_of c.args.body.now c.args.window.now) _ t.0 c.args.left (c.args.left - came) came
          c.requires.at c.stage_with-body.ensures refl t.2 size both there,
      asks_data c.args.body.now.stage c.args.left c.args.window.now t.0 c.args.src.now c.take_data-taken.new.src
          c.requires.at t.3,
    )

pub returns-clause-moved : goal.returns-clause-moved
returns-clause-moved g c =
    let t = c.take_data-taken.ensures.taken in
    let came = c.len.result - c.len-before.result in
    let size : length c.take_data-taken.new.bytes.items ≡ length c.args.body.now.bytes.items + came =
    omega (
      arith,
      takes_len _ _ _ _ _ t.2,
      c.len.ensures,
      c.len-before.ensures,
      c.take_data-taken.new.bytes.ok.0,
      c.args.body.now.bytes.ok.0,
    ) in
    let both : c.args.left ≡ came + (c.args.left - came) =
    omega (arith, c.take_data-taken.ensures.within, c.len.ensures, c.len-before.ensures) in
    let there : c.saturating_add-body.result ≡ place (c.args.body.now.place + came) =
    omega (arith, c.saturating_add-body.ensures) in (
      t.0,
      t.1,
      moves_taken (progress_of c.args.body.now c.args.window.now) _ t.0 c.args.left (c.args.left - came) came
          c.requires.at c.stage_with-body.ensures refl t.2 size both there,
      asks_data c.args.body.now.stage c.args.left c.args.window.now t.0 c.args.src.now c.take_data-taken.new.src
          c.requires.at t.3,
    )
