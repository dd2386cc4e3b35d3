-- The answer to a query over the history that was seen (VictoriaLogs, "Querying").
use Rattle.std.specs.Prelude.{◌≡◌, ℕ, pos, List, ◌++◌, codes, decimal, flat_map}
use Rattle.log_model.specs.History.{History, rows_of}
use Rattle.log_model.specs.Print.{lines_text}
use Rattle.log_model.specs.Row.{Batch, Row}
use Rattle.http_reply.specs.declared.status.Kind.TheVariants as kinds
use Rattle.http_reply.specs.declared.status.Status.{Status}
use Rattle.http_reply.specs.declared.status.Status.TheVariants as statuses
use Rattle.query_run.specs.Evaluation as evaluation
use Rattle.query_run.specs.Evaluation.{evaluate}
use Rattle.query_run.specs.Records.{Record}
use Rattle.query_run.specs.Faults.{fault_text}
pub use Rattle.query_run.specs.Query.{IsQueryText}
use Rattle.query_run.specs.QueryFault.{QueryFault}
use Rattle.query_run.specs.Asked.{ForReadableQuery, HasUnreadablePattern, IsUnspelled}
use Rattle.vl_session.specs.Seen.{Effect, looks, nothing}

-- the result of a query
pub data QueryOutcome : Type 0 where
  -- its text spells none
  unspelled : QueryFault → QueryOutcome
  -- its regular expression with this number, from 0 on, is the first that cannot be read
  unreadable : ℕ → QueryOutcome
  -- it has these records
  found : List Record → QueryOutcome
  -- 2^32 rows hold, or more
  many_rows : QueryOutcome
  -- the total of the function with this name is not a 64-bit integer
  overflows : List ℕ → QueryOutcome

-- the rows of these batches, one batch after another
abbrev pub batch_list_rows : List Batch → List Row
batch_list_rows batches = flat_map (λ batch. batch) batches

-- The text spells a query whose patterns can all be read, and this is its evaluation over all rows of the history.
abbrev pub Evaluates : List ℕ → ℕ → History → evaluation.Outcome → Type 0
Evaluates text now history outcome =
    ForReadableQuery text (λ query. evaluate query (pos now) (rows_of history) ≡ outcome)

-- the text of a query, over the history that was seen
abbrev pub HasQueryOutcome : List ℕ → ℕ → History → QueryOutcome → Type 0
HasQueryOutcome text now history (unspelled fault) = IsUnspelled text fault
HasQueryOutcome text now history (unreadable nth) = HasUnreadablePattern text nth
HasQueryOutcome text now history (found records) = Evaluates text now history (evaluation.records records)
HasQueryOutcome text now history many_rows = Evaluates text now history evaluation.many_rows
HasQueryOutcome text now history (overflows name) = Evaluates text now history (evaluation.overflow name)

-- Only a query that can be asked looks at the log.
abbrev pub query_effect : QueryOutcome → Effect
query_effect (unspelled fault) = nothing
query_effect (unreadable nth) = nothing
query_effect (found records) = looks
query_effect many_rows = looks
query_effect (overflows name) = looks

abbrev pub query_status : QueryOutcome → Status
query_status (unspelled fault) = statuses.BadRequest
query_status (unreadable nth) = statuses.BadRequest
query_status (found records) = statuses.Served kinds.JsonLines
query_status many_rows = statuses.UnprocessableContent
query_status (overflows name) = statuses.UnprocessableContent

abbrev pub query_content : QueryOutcome → List ℕ
query_content (unspelled fault) = fault_text fault ++ codes "\n"
query_content (unreadable nth) = codes "RegexRefused number " ++ (decimal nth ++ codes "\n")
query_content (found records) = lines_text records
query_content many_rows = codes "ManyRows\n"
query_content (overflows name) = codes "Overflow in " ++ (name ++ codes "\n")
