use Rattle.std.proofs.Common.{◌≡◌, ◌+◌, length, refl, ap, ◌∙◌, unsigned_abs, FitsSigned, w64}
use Rattle.std.proofs.lemmas.Int.{to_z-of_z}
use Rattle.std.specs.Prelude.{◌||◌, ◌==◌}
use Rattle.http_in.specs.Reading.{asked_by}
use Rattle.vl_session.specs.Sent.{bytes_of}
use Rattle.vl_session.specs.Turns.{closes_after}
use Rattle.vl_session.proofs.QueryLemmas.{same_moment}
use Rattle.vl_session.proofs.TurnLemmas.{served, turn_of}
use Rattle.vl_session.proofs.turn.serve.Goals as goal

pub returns-clause-served : goal.returns-clause-served
returns-clause-served g c =
    let fits : FitsSigned w64 c.args.now = c.ranges.now in
    let r = simp to_z-of_z at c.serve-reply.ensures.served in
    let count : c.len.result ≡ length c.args.turns.now.items = c.len.ensures ∙ c.args.turns.now.ok.0 in
    let same : c.closes_after-closes.result
    ≡ closes_after (length c.args.turns.now.items) (asked_by c.args.request.now) =
    c.closes_after-closes.ensures ∙ ap (λ n. c.args.request.now.last || (n + 1 == 1000)) count in (
      turn_of (asked_by c.args.request.now) (unsigned_abs c.args.now) r.0 (g.L.Log.seen c.serve-reply.new.self)
          (bytes_of c.serve-reply.result),
      served _ _ _ _ _ _ _ _ _ _ _ r.1 same (same_moment c.args.now c.requires.moment) c.front.ensures c.settled.ensures
          (simp to_z-of_z at c.note.ensures),
      refl,
      refl,
    )
