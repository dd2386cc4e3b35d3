use Rattle.std.proofs.Common.{◌≡◌, ◌++◌, take, length, ap, subst, sym, ◌∙◌, arith}
use Rattle.std.proofs.lemmas.List.{length-take}
use Rattle.http_in.specs.Head.{IsHeadAt}
use Rattle.http_in.proofs.TurnLemmas.{head_alone, room_first}
use Rattle.http_in.proofs.turn.begin.Goals as goal

pub returns-clause-begun : goal.returns-clause-begun
returns-clause-begun c =
    let window = c.args.window.now in
    let len = c.args.head.len in
    let kept : c.extend_from_slice.new.self.items ≡ take len window =
    c.in_ok-extend_from_slice.ensures.items ∙ ap (λ l. l ++ take len c.as_slice.result.now) c.clear.ensures.items
    ∙ ap (take len) c.as_slice.ensures in
    let none = (rw c.requires.none at c.requires.begun).0 in (
      subst (λ l. IsHeadAt l c.args.head) (sym kept) (head_alone window c.args.head c.requires.at),
      omega (arith, ap length kept, length-take len window, c.requires.at.fits),
      room_first c.args.head.framing c.first_stage-body.result c.args.body.now.bytes.items c.first_stage-body.ensures
          none,
    )
