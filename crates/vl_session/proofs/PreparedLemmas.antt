-- Replies to inserts, around the number of their batch.
use Rattle.std.proofs.Common.{◌≡◌, ◌⊎◌, inl, inr, ℕ, ◌^◌, ◌<◌, Bool, true, false, List, [], ◌∷◌, ◌++◌, length, is_some, refl, ap, sym, ◌∙◌}
use Rattle.std.proofs.Common.{append_assoc}
use Rattle.std.specs.Prelude.{codes, decimal, flat_map, string_bytes}
use Rattle.log_model.specs.Field.{Field}
use Rattle.log_model.specs.Print.{line_text}
use Rattle.http_reply.specs.Reply.{body_bytes, head_bytes, reply_bytes}
use Rattle.http_reply.specs.declared.status.Delivery.{Delivery}
use Rattle.http_reply.specs.declared.status.Kind.TheVariants as kinds
use Rattle.http_reply.specs.declared.status.Status.{Status}
use Rattle.http_reply.specs.declared.status.Status.TheVariants as statuses
use Rattle.ingest_row.specs.declared.body.LineFault.{LineFault}
use Rattle.vl_session.specs.Incoming.{batch_text, fields_said, filled}
use Rattle.vl_session.specs.Insert.{fault_fields}
use Rattle.vl_session.specs.Prepared.{IsPreparedFor, content_with}
use Rattle.vl_session.specs.Said.{first_member, later_member, refused_text}
use Rattle.vl_session.specs.declared.insert.Incoming.{Incoming}
use Rattle.vl_session.specs.declared.prepared_reply.NumberedReply.{NumberedReply}
use Rattle.vl_session.specs.declared.prepared_reply.PreparedReply.TheVariants.{Numbered}
use Rattle.vl_session.proofs.InsertLemmas.{batch_is, filled_number, line_members}

abbrev pub accepted_text : ℕ → List ℕ
accepted_text accepted = first_member (codes "accepted", decimal accepted)

-- the fields after the number
abbrev refused_fields : Incoming → List Field
refused_fields incoming =
    fault_fields incoming.refused ++ (codes "refused", decimal (length incoming.refused)) ∷ []

regroup : (first name digits rest end : List ℕ)
    → (first ++ name) ++ (digits ++ (rest ++ end)) ≡ first ++ (((name ++ digits) ++ rest) ++ end)
regroup first name digits rest end = simp append_assoc

module _ (incoming : Incoming) (number : ℕ) where
  said_with : (there : Bool) → is_some incoming.batch ≡ there
      → fields_said incoming number ≡ (codes "accepted", decimal incoming.accepted)
      ∷ (filled (codes "batch") (batch_text there number) ++ refused_fields incoming)
  said_with there is = ap (λ (there : Bool). (codes "accepted", decimal incoming.accepted)
      ∷ (filled (codes "batch") (batch_text there number) ++ refused_fields incoming)) is

  -- the reply's fields where the rows are a batch
  pub said_numbered : is_some incoming.batch ≡ true → number < 2 ^ 64
      → (accepted_text incoming.accepted ++ codes "\",\"batch\":\"")
      ++ (decimal number ++ refused_text incoming.refused)
      ≡ line_text (fields_said incoming number)
  said_numbered there few =
      regroup (accepted_text incoming.accepted) (codes "\",\"batch\":\"") (decimal number)
      (flat_map later_member (refused_fields incoming)) (codes "\"}\n")
      ∙ sym (ap line_text (said_with true there
      ∙ ap (λ (batch : List Field). (codes "accepted", decimal incoming.accepted) ∷ (batch ++ refused_fields incoming))
      (filled_number number few))
      ∙ line_members (codes "accepted", decimal incoming.accepted)
      ((codes "batch", decimal number) ∷ refused_fields incoming)
      ∙ ap (λ l. accepted_text incoming.accepted ++ ((l ++ flat_map later_member (refused_fields incoming))
      ++ codes "\"}\n")) (batch_is number few))

  -- and where there are none
  pub said_numberless : is_some incoming.batch ≡ false
      → accepted_text incoming.accepted ++ refused_text incoming.refused ≡ line_text (fields_said incoming number)
  said_numberless none =
      sym (ap line_text (said_with false none)
      ∙ line_members (codes "accepted", decimal incoming.accepted) (refused_fields incoming))

  -- the same, piece by piece
  pub pieces_numbered : (accepted start end : List ℕ) (refused : List LineFault) → is_some incoming.batch ≡ true
      → number < 2 ^ 64 → accepted ≡ accepted_text incoming.accepted → start ≡ accepted ++ codes "\",\"batch\":\""
      → end ≡ refused_text refused → refused ≡ incoming.refused
      → start ++ (decimal number ++ end) ≡ line_text (fields_said incoming number)
  pieces_numbered accepted start end refused there few is_accepted is_start is_end are_refused =
      ap (λ l. l ++ (decimal number ++ end)) (is_start ∙ ap (λ l. l ++ codes "\",\"batch\":\"") is_accepted)
      ∙ ap (λ l. (accepted_text incoming.accepted ++ codes "\",\"batch\":\"") ++ (decimal number ++ l))
      (is_end ∙ ap refused_text are_refused)
      ∙ said_numbered there few

-- a head without a length is that of each content
bare_head : (status : Status) (m n : ℕ) (delivery : Delivery) → delivery.bare ≡ true
    → head_bytes status m delivery ≡ head_bytes status n delivery
unfolding head_bytes
bare_head status m n delivery bare = rw bare refl

bare_reply : (status : Status) (content other : List ℕ) (delivery : Delivery) → delivery.bare ≡ true
    → reply_bytes status content delivery ≡ reply_bytes status other delivery
bare_reply status content other delivery bare =
    ap (λ head. head ++ body_bytes delivery.bare content)
    (bare_head status (length content) (length other) delivery bare)
    ∙ rw bare refl

-- a reply that names no batch
pub numberless : (incoming : Incoming) (delivery : Delivery) (number : ℕ)
    → (delivery.bare ≡ true) ⊎ (is_some incoming.batch ≡ false)
    → reply_bytes (statuses.Served kinds.Json) (accepted_text incoming.accepted ++ refused_text incoming.refused)
    delivery
    ≡ reply_bytes (statuses.Served kinds.Json) (line_text (fields_said incoming number)) delivery
numberless incoming delivery number (inl bare) =
    bare_reply (statuses.Served kinds.Json) (accepted_text incoming.accepted ++ refused_text incoming.refused)
    (line_text (fields_said incoming number)) delivery bare
numberless incoming delivery number (inr none) =
    ap (λ content. reply_bytes (statuses.Served kinds.Json) content delivery) (said_numberless incoming number none)

-- a reply that names one
pub prepared_numbered : (prepared : NumberedReply) (incoming : Incoming) (delivery : Delivery) → delivery.bare ≡ false
    → ((length : ℕ) → string_bytes prepared.head_start ++ (decimal length ++ string_bytes prepared.head_end)
    ≡ head_bytes (statuses.Served kinds.Json) length delivery)
    → ((number : ℕ) → number < 2 ^ 64 → content_with prepared number ≡ line_text (fields_said incoming number))
    → IsPreparedFor (Numbered prepared) incoming delivery
prepared_numbered prepared incoming delivery has head content number few =
    let said = content_with prepared number in
    let digits = decimal (length said) in
    ap (λ l. string_bytes prepared.head_start ++ l) (sym (append_assoc digits (string_bytes prepared.head_end) said))
    ∙ sym (append_assoc (string_bytes prepared.head_start) (digits ++ string_bytes prepared.head_end) said)
    ∙ ap (λ l. l ++ said) (head (length said))
    ∙ ap (λ bare. head_bytes (statuses.Served kinds.Json) (length said) delivery ++ body_bytes bare said) (sym has)
    ∙ ap (λ content. reply_bytes (statuses.Served kinds.Json) content delivery) (content number few)
