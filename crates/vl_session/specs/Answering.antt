-- How a caller is answered, where memory does not run out.
use Rattle.std.specs.Prelude.{◌≡◌, ◌⊎◌, ℕ, IfSome, List, Some, Result}
use Rattle.log_model.specs.Print.{line_text}
use Rattle.log_desk.specs.Seen.{Caller, Seen}
use Rattle.http_reply.specs.Reply.{reply_bytes}
use Rattle.http_reply.specs.declared.status.Delivery.{Delivery}
use Rattle.http_reply.specs.declared.status.Kind.TheVariants as kinds
use Rattle.http_reply.specs.declared.status.Status.TheVariants as statuses
use Rattle.http_route.specs.Route.{Wanted}
use Rattle.http_route.specs.declared.refusal.Refusal.{Refusal}
use Rattle.vl_session.specs.Incoming.{Commits, IsUncommitted, fields_said, insert_outcome_of}
use Rattle.vl_session.specs.Insert.{InsertOutcome, insert_status, refusal_text}
use Rattle.vl_session.specs.Query.{HasQueryOutcome, QueryOutcome, query_content, query_effect, query_status}
use Rattle.vl_session.specs.Reply.{Answers}
use Rattle.vl_session.specs.Seen.{Effect, Has}
use Rattle.vl_session.specs.declared.insert.Incoming.{Incoming}
use Rattle.vl_session.specs.declared.insert.Insertion.{Insertion}
use Rattle.vl_session.specs.declared.insert.InsertionFault.{InsertionFault}

-- What is wanted or refused is answered, with this effect on what has been seen.
pub record Answered (caller : Caller) (wanted : Result Wanted Refusal) (body : List ℕ) (now : ℕ) (old new : Seen)
    (delivery : Delivery) (reply : List ℕ) : Type 0 where
  pub effect : Effect
  pub has : Has caller old new effect
  pub answers : Answers wanted body now new delivery effect reply

-- Lines were inserted, and this is the reply, with the number of their batch, if there is one.
pub record IsAccepted (caller : Caller) (incoming : Incoming) (old new : Seen) (delivery : Delivery)
    (reply : List ℕ) : Type 0 where
  pub insertion : Insertion
  pub commits : Commits caller incoming old new insertion
  pub number : ℕ
  pub numbered : IfSome insertion.batch (λ batch. number ≡ batch)
  pub said : reply ≡ reply_bytes (statuses.Served kinds.Json) (line_text (fields_said incoming number)) delivery

-- They were not, and the reply says why.
pub record IsTurnedAway (caller : Caller) (incoming : Incoming) (old new : Seen) (delivery : Delivery)
    (reply : List ℕ) : Type 0 where
  pub fault : InsertionFault
  pub why : IsUncommitted caller incoming old new fault
  pub outcome : InsertOutcome
  pub is_outcome : insert_outcome_of fault ≡ Some outcome
  pub said : reply ≡ reply_bytes (insert_status outcome) (refusal_text outcome) delivery

abbrev pub TakesIn : Caller → Incoming → Seen → Seen → Delivery → List ℕ → Type 0
TakesIn caller incoming old new delivery reply =
    IsAccepted caller incoming old new delivery reply ⊎ IsTurnedAway caller incoming old new delivery reply

-- A query has this outcome over what has then been seen, and this is the reply.
pub record SaysOutcome (caller : Caller) (text : List ℕ) (now : ℕ) (old new : Seen) (delivery : Delivery)
    (reply : List ℕ) : Type 0 where
  pub outcome : QueryOutcome
  pub has : Has caller old new (query_effect outcome)
  pub has_outcome : HasQueryOutcome text now new.history outcome
  pub said : reply ≡ reply_bytes (query_status outcome) (query_content outcome) delivery
