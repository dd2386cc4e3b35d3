use Rattle.std.proofs.Common.{◌≡◌, ◌++◌, List, ℕ, string_bytes, ap, ◌∙◌}
use Rattle.vl_session.specs.Said.{refused_text}
use Rattle.vl_session.proofs.PreparedLemmas.{accepted_text, pieces_numbered}
use Rattle.vl_session.proofs.prepared_reply.NumberedReply.of.Goals as goal

pub returns-clause-content : goal.returns-clause-content
returns-clause-content c number few =
    let accepted : string_bytes c.push_accepted.new.text ≡ accepted_text c.args.incoming.now.accepted =
    c.in_ok-push_accepted.ensures
    ∙ ap (λ (l : List ℕ). l ++ accepted_text c.args.incoming.now.accepted) c.new-content_start.ensures.bytes in
    let refused : string_bytes c.push_refused.new.text ≡ refused_text c.as_slice.result.now =
    c.in_ok-push_refused.ensures
    ∙ ap (λ (l : List ℕ). l ++ refused_text c.as_slice.result.now) c.new-content_end.ensures.bytes in
    pieces_numbered c.args.incoming.now number (string_bytes c.push_accepted.new.text)
    (string_bytes c.push_str.new.self) (string_bytes c.push_refused.new.text) c.as_slice.result.now
    c.requires.has_batch few accepted c.in_ok-push_str.ensures.bytes refused c.as_slice.ensures
