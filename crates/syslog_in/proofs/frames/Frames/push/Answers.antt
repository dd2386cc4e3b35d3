use Rattle.std.proofs.Common.{◌≡◌, List, ℕ, ◌++◌, ◌∷◌, [], length, ap, ◌∙◌, arith}
use Rattle.syslog_in.proofs.Texts.{pushed, unused}
use Rattle.syslog_in.proofs.frames.Frames.push.Goals as goal
use Rattle.syslog_in.proofs.frames.Frames.push.Goals.{in-Ok, in-Err}

pub invariant_of-self-2 : goal.invariant_of-self-2
invariant_of-self-2 c =
    let start : c.len-start.result ≡ length c.self.inside.bytes.items = omega
    (arith, c.len-start.ensures, c.self.inside.bytes.ok) in
    let end : c.len-end.result ≡ length c.extend_from_slice.new.self.items = omega
    (arith, c.len-end.ensures, c.extend_from_slice.new.self.ok) in
    elim c.match-push.branch [
      | in-Ok w ↦ (pushed _ _ _ _ _ _ _ c.in_ok-extend_from_slice.ensures.items w.in-Ok.ensures.items start end
          c.self.invariant).1
      | in-Err w ↦ (unused _ _ _ _ _ c.in_ok-extend_from_slice.ensures.items w.in-Err.ensures.items c.self.invariant).1
    ]

pub returns-clause-ok : goal.returns-clause-ok
returns-clause-ok c =
    let start : c.len-start.result ≡ length c.self.inside.bytes.items = omega
    (arith, c.len-start.ensures, c.self.inside.bytes.ok) in
    let end : c.len-end.result ≡ length c.extend_from_slice.new.self.items = omega
    (arith, c.len-end.ensures, c.extend_from_slice.new.self.ok) in
    elim c.match-push.branch [
      | in-Ok w ↦ rw w.result-is ((pushed _ _ _ _ _ _ _ c.in_ok-extend_from_slice.ensures.items w.in-Ok.ensures.items
          start end c.self.invariant).0 ∙ ap (λ (ts : List (List ℕ)). ts ++ c.args.text.now ∷ []) c.self.view_is)
      | in-Err w ↦ rw w.result-is tt
    ]

pub returns-clause-err : goal.returns-clause-err
returns-clause-err c = elim c.match-push.branch [
  | in-Ok w ↦ rw w.result-is tt
  | in-Err w ↦ rw w.result-is ((unused _ _ _ _ _ c.in_ok-extend_from_slice.ensures.items w.in-Err.ensures.items
      c.self.invariant).0 ∙ c.self.view_is)
]
