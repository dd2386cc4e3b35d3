use Rattle.std.proofs.Common.{rules, ◌≡◌, ◌<◌, ◌^◌, List, ℕ, codes, decimal, flat_map, length, string_bytes, ◌++◌, ap, sym, ◌∙◌, append_assoc}
use Rattle.vl_session.specs.Insert.{fault_fields}
use Rattle.vl_session.specs.Said.{later_member, refused_text}
use Rattle.vl_session.proofs.InsertLemmas.{refused_is}
use Rattle.vl_session.proofs.insert_reply.push_refused.Goals as goal

pub returns : goal.returns
returns c =
    let few : length c.args.refused.now < 2 ^ 64 = search rules in
    let faults : List ℕ = flat_map later_member (fault_fields c.args.refused.now) in
    let end : List ℕ = codes "\",\"refused\":\"" ++ (decimal (length c.args.refused.now) ++ codes "\"}\n") in
    let all : string_bytes c.args.text.now ++ refused_text c.args.refused.now
    ≡ string_bytes c.push_faults.new.text ++ end =
    ap (λ l. string_bytes c.args.text.now ++ l) (refused_is c.args.refused.now few)
    ∙ sym (append_assoc (string_bytes c.args.text.now) faults end)
    ∙ ap (λ l. l ++ end) (sym c.in_ok-push_faults.ensures) in
    rw all c.write.ensures.bytes
