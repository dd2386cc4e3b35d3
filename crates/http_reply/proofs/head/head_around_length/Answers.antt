use Rattle.std.proofs.Common.{rules, ◌≡◌, ◌++◌, decimal, string_bytes, ap, ◌∙◌, append_assoc}
use Rattle.http_reply.proofs.HeadLemmas.{around_length, before_length, after_length}
use Rattle.http_reply.proofs.head.head_around_length.Goals as goal

pub returns : goal.returns
returns c length =
    let before : string_bytes c.push_str-3.new.self ≡ before_length c.args.status = search (rules, append_assoc) in
    let after : string_bytes c.push_str-4.new.self ≡ after_length c.args.delivery = search rules in
    ap (λ l. l ++ (decimal length ++ string_bytes c.push_str-4.new.self)) before
    ∙ ap (λ l. before_length c.args.status ++ (decimal length ++ l)) after
    ∙ around_length c.args.status length c.args.delivery c.requires.has_length
