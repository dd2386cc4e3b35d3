-- Inserts that are answered.
use Rattle.std.specs.Prelude.{◌≡◌, ◌⊎◌, ℕ, Bool, List, Ok}
use Rattle.http_in.specs.Message.{Asked}
use Rattle.http_reply.specs.Reply.{reply_bytes}
use Rattle.http_reply.specs.declared.status.Kind.TheVariants as kinds
use Rattle.http_reply.specs.declared.status.Status.TheVariants as statuses
use Rattle.http_route.specs.Route.{delivery_of, insert, wanted_of}
use Rattle.ingest_row.specs.Ingest.{Options}
use Rattle.ingest_row.specs.Intake.{Outcome, rows_read}
use Rattle.log_desk.specs.Seen.{Caller, Gains, Seen}
use Rattle.vl_session.specs.Insert.{CanBeBatch, insert_content, taken}
use Rattle.vl_session.specs.Reply.{AnswersNothing, IsServed}
use Rattle.vl_session.specs.Seen.{Effect, HasRoom}

-- a request that wants the lines of its body inserted, how it was served, and the outcome of its lines
pub record InsertRequest : Type 0 where
  pub asked : Asked
  pub closes : Bool
  pub now : ℕ
  pub old : Seen
  pub new : Seen
  pub effect : Effect
  pub reply : List ℕ
  pub options : Options
  pub outcomes : List Outcome

-- The request was served, it wants its lines accepted, and some of them have rows, which can be a batch. There was room
-- for another.
pub record IsInsertServed (caller : Caller) (request : InsertRequest) : Type 0 where
  pub served : IsServed caller request.asked request.closes request.now request.old request.new request.effect
      request.reply
  pub wanted : wanted_of request.asked ≡ Ok (insert request.options)
  pub can_be_batch : CanBeBatch request.options request.now request.asked.body request.outcomes
  pub room : HasRoom request.new

-- The batch was added and the reply is the 200 with its number, or the reply says that memory ran out.
abbrev pub IsInsertAnswered : Caller → InsertRequest → Type 0
IsInsertAnswered caller request =
    let delivery = delivery_of request.asked request.closes in
    (Gains caller request.old request.new (rows_read request.outcomes)
    × (request.reply
    ≡ reply_bytes (statuses.Served kinds.Json) (insert_content request.new (taken request.outcomes)) delivery))
    ⊎ AnswersNothing delivery request.effect request.reply
