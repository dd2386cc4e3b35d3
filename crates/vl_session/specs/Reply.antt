-- The reply to a request, from what had been seen of the log once it was served.
use Rattle.std.specs.Prelude.{◌≡◌, ◌⊎◌, ℕ, List, [], ◌∷◌, length, codes, decimal, Result, Ok, Err, Bool}
use Rattle.log_model.specs.Print.{line_text}
use Rattle.http_in.specs.Message.{Asked}
use Rattle.http_reply.specs.Reply.{no_memory_bytes, reply_bytes}
use Rattle.http_reply.specs.declared.status.Delivery.{Delivery}
use Rattle.http_reply.specs.declared.status.Kind.TheVariants as kinds
use Rattle.http_reply.specs.declared.status.Status.TheVariants as statuses
use Rattle.http_route.specs.Refusal.{refusal_bytes}
use Rattle.http_route.specs.Route.{Wanted, delivery_of, health, insert, query, status, wanted_of}
use Rattle.http_route.specs.declared.refusal.Refusal.{Refusal}
use Rattle.ingest_row.specs.Ingest.{Options}
use Rattle.vl_session.specs.Insert.{HasInsertOutcome, InsertOutcome, insert_content, insert_effect, insert_status}
use Rattle.vl_session.specs.Query.{HasQueryOutcome, QueryOutcome, query_content, query_effect, query_status}
use Rattle.log_desk.specs.Seen.{Caller, Seen}
use Rattle.vl_session.specs.Seen.{Effect, Has, asks, looks, nothing}

-- this many batches there are, and this many of them are settled
abbrev pub status_text : ℕ → ℕ → List ℕ
status_text batches settled =
    line_text ((codes "batches", decimal batches) ∷ (codes "settled", decimal settled) ∷ [])

abbrev pub status_content : Seen → List ℕ
status_content seen = status_text (length seen.history) seen.settled

-- a query has this outcome, and this is its reply
pub record AnswersQuery (text : List ℕ) (now : ℕ) (seen : Seen) (delivery : Delivery) (effect : Effect)
    (reply : List ℕ) : Type 0 where
  pub outcome : QueryOutcome
  pub has_outcome : HasQueryOutcome text now seen.history outcome
  pub effect_is : effect ≡ query_effect outcome
  pub said : reply ≡ reply_bytes (query_status outcome) (query_content outcome) delivery

-- a body has this outcome, and this is its reply
pub record AnswersInsert (options : Options) (now : ℕ) (body : List ℕ) (seen : Seen) (delivery : Delivery)
    (effect : Effect) (reply : List ℕ) : Type 0 where
  pub outcome : InsertOutcome
  pub has_outcome : HasInsertOutcome options now body seen outcome
  pub effect_is : effect ≡ insert_effect outcome
  pub said : reply ≡ reply_bytes (insert_status outcome) (insert_content seen outcome) delivery

-- the answer to what is wanted, or to what is refused
abbrev pub Answers : Result Wanted Refusal → List ℕ → ℕ → Seen → Delivery → Effect → List ℕ → Type 0
Answers (Ok (insert options)) body now seen delivery effect reply =
    AnswersInsert options now body seen delivery effect reply
Answers (Ok (query text)) body now seen delivery effect reply = AnswersQuery text now seen delivery effect reply
Answers (Ok status) body now seen delivery effect reply =
    (effect ≡ looks) × (reply ≡ reply_bytes (statuses.Served kinds.Json) (status_content seen) delivery)
Answers (Ok health) body now seen delivery effect reply =
    (effect ≡ nothing) × (reply ≡ reply_bytes (statuses.Served kinds.Text) (codes "OK\n") delivery)
Answers (Err refusal) body now seen delivery effect reply =
    (effect ≡ nothing) × (reply ≡ refusal_bytes refusal delivery)

-- The fixed reply where memory ran out. The log may have been looked at, and nothing was added.
abbrev pub AnswersNothing : Delivery → Effect → List ℕ → Type 0
AnswersNothing delivery effect reply = (effect ≡ asks) × (reply ≡ no_memory_bytes delivery)

-- A request that was whole at the moment `now` was served with this effect, and this is the reply, after which the
-- connection ends or goes on.
pub record IsServed (caller : Caller) (asked : Asked) (closes : Bool) (now : ℕ) (old new : Seen) (effect : Effect)
    (reply : List ℕ) : Type 0 where
  pub has : Has caller old new effect
  pub answers : Answers (wanted_of asked) asked.body now new (delivery_of asked closes) effect reply
      ⊎ AnswersNothing (delivery_of asked closes) effect reply
