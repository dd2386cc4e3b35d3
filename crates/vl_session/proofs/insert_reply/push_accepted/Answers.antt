use Rattle.std.proofs.Common.{◌≡◌, List, ℕ, ◌++◌, OnOk, string_bytes, subst, sym}
use Rattle.vl_session.proofs.InsertLemmas.{accepted_is}
use Rattle.vl_session.proofs.insert_reply.push_accepted.Goals as goal

pub returns : goal.returns
returns c =
    subst (λ (l : List ℕ). OnOk c.write.result (string_bytes c.write.new.self ≡ string_bytes c.args.text.now ++ l))
    (sym (accepted_is c.args.accepted c.ranges.accepted.fits)) c.write.ensures.bytes
