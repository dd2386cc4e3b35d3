-- Replies to inserts, before the number of their batch is known.
use Rattle.std.specs.Prelude.{◌≡◌, ℕ, ◌^◌, ◌<◌, List, ◌++◌, length, decimal, string_bytes}
use Rattle.log_model.specs.Print.{line_text}
use Rattle.http_reply.specs.Reply.{reply_bytes}
use Rattle.http_reply.specs.declared.status.Delivery.{Delivery}
use Rattle.http_reply.specs.declared.status.Kind.TheVariants as kinds
use Rattle.http_reply.specs.declared.status.Status.TheVariants as statuses
use Rattle.vl_session.specs.Incoming.{fields_said}
use Rattle.vl_session.specs.declared.insert.Incoming.{Incoming}
use Rattle.vl_session.specs.declared.prepared_reply.NumberedReply.{NumberedReply}
use Rattle.vl_session.specs.declared.prepared_reply.PreparedReply.{PreparedReply}
use Rattle.vl_session.specs.declared.prepared_reply.PreparedReply.TheVariants.{Whole, Numbered}

-- the content with this number
abbrev pub content_with : NumberedReply → ℕ → List ℕ
content_with prepared number =
    string_bytes prepared.content_start ++ (decimal number ++ string_bytes prepared.content_end)

-- the reply with it
abbrev pub numbered_text : NumberedReply → ℕ → List ℕ
numbered_text prepared number =
    string_bytes prepared.head_start ++ (decimal (length (content_with prepared number))
    ++ (string_bytes prepared.head_end ++ content_with prepared number))

-- a prepared reply, once the number is known
abbrev pub text_with : PreparedReply → ℕ → List ℕ
text_with (Whole text) number = string_bytes text
text_with (Numbered prepared) number = numbered_text prepared number

-- With each number it is the reply to these lines.
abbrev pub IsPreparedFor : PreparedReply → Incoming → Delivery → Type 0
IsPreparedFor prepared incoming delivery =
    (number : ℕ) → number < 2 ^ 64 → text_with prepared number
    ≡ reply_bytes (statuses.Served kinds.Json) (line_text (fields_said incoming number)) delivery
