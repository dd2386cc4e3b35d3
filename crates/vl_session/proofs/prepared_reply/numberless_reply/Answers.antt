use Rattle.std.proofs.Common.{◌≡◌, ◌++◌, List, ℕ, ap, ◌∙◌}
use Rattle.http_reply.specs.Reply.{reply_bytes}
use Rattle.http_reply.specs.declared.status.Kind.TheVariants as kinds
use Rattle.http_reply.specs.declared.status.Status.TheVariants as statuses
use Rattle.vl_session.specs.Said.{refused_text}
use Rattle.vl_session.proofs.PreparedLemmas.{accepted_text, numberless}
use Rattle.vl_session.proofs.prepared_reply.numberless_reply.Goals as goal

pub returns : goal.returns
returns c number =
    let content : c.as_str.result.now
    ≡ accepted_text c.args.incoming.now.accepted ++ refused_text c.args.incoming.now.refused =
    c.as_str.ensures.value ∙ c.in_ok-push_refused.ensures
    ∙ ap (λ l. l ++ refused_text c.as_slice.result.now) (c.in_ok-push_accepted.ensures
    ∙ ap (λ (l : List ℕ). l ++ accepted_text c.args.incoming.now.accepted) c.new-content.ensures.bytes)
    ∙ ap (λ refused. accepted_text c.args.incoming.now.accepted ++ refused_text refused) c.as_slice.ensures in
    c.in_ok-text.ensures
    ∙ ap (λ content. reply_bytes (statuses.Served kinds.Json) content c.args.delivery) content
    ∙ numberless c.args.incoming.now c.args.delivery number c.requires.numberless
