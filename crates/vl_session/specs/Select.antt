-- Selects that are answered.
use Rattle.std.specs.Prelude.{◌≡◌, ◌⊎◌, ℕ, Bool, List, Ok}
use Rattle.log_model.specs.Print.{lines_text}
use Rattle.http_in.specs.Message.{Asked}
use Rattle.http_reply.specs.Reply.{reply_bytes}
use Rattle.http_reply.specs.declared.status.Kind.TheVariants as kinds
use Rattle.http_reply.specs.declared.status.Status.TheVariants as statuses
use Rattle.http_route.specs.Route.{delivery_of, query, wanted_of}
use Rattle.query_run.specs.Records.{Record}
use Rattle.vl_session.specs.Query.{HasQueryOutcome, found}
use Rattle.vl_session.specs.Reply.{AnswersNothing, IsServed}
use Rattle.log_desk.specs.Seen.{Caller, Seen}
use Rattle.vl_session.specs.Seen.{Effect}

-- a request that wants the answer to a query, how it was served, and the records of that query
pub record Select : Type 0 where
  pub asked : Asked
  pub closes : Bool
  pub now : ℕ
  pub old : Seen
  pub new : Seen
  pub effect : Effect
  pub reply : List ℕ
  pub text : List ℕ
  pub records : List Record

-- The request was served, it wants the answer to this query, and over what was seen then the query has these records.
pub record IsSelectServed (caller : Caller) (select : Select) : Type 0 where
  pub served : IsServed caller select.asked select.closes select.now select.old select.new select.effect select.reply
  pub wanted : wanted_of select.asked ≡ Ok (query select.text)
  pub has_records : HasQueryOutcome select.text select.now select.new.history (found select.records)

-- The reply is the 200 with their lines, or says that memory ran out.
abbrev pub IsSelectAnswered : Select → Type 0
IsSelectAnswered select =
    let delivery = delivery_of select.asked select.closes in
    (select.reply ≡ reply_bytes (statuses.Served kinds.JsonLines) (lines_text select.records) delivery)
    ⊎ AnswersNothing delivery select.effect select.reply
