-- What becomes of a body that is to be inserted (VictoriaLogs, "Data ingestion").
use Rattle.std.specs.Prelude.{◌≡◌, ℕ, ◌-◌, ◌^◌, ◌<◌, ◌≤◌, pos, List, [], ◌∷◌, ◌++◌, length, map, take, codes}
use Rattle.std.specs.Prelude.{decimal, flat_map, min}
use Rattle.log_model.specs.Field.{Field}
use Rattle.log_model.specs.Print.{line_text}
use Rattle.log_model.specs.Row.{batch_limit, batch_weight}
use Rattle.http_reply.specs.declared.status.Kind.TheVariants as kinds
use Rattle.http_reply.specs.declared.status.Status.{Status}
use Rattle.http_reply.specs.declared.status.Status.TheVariants as statuses
use Rattle.ingest_row.specs.Ingest.{Options}
use Rattle.ingest_row.specs.Intake.{IsIntake, Outcome, refused_from, rows_read}
use Rattle.ingest_row.specs.Refusal.{kind_text}
use Rattle.ingest_row.specs.declared.body.LineFault.{LineFault}
use Rattle.log_desk.specs.Seen.{Seen}
use Rattle.vl_session.specs.Seen.{Effect, HadRoom, IsFull, HasLastNumber, adds, looks, nothing}

-- the result of a body, whose lines have these outcomes
pub data InsertOutcome : Type 0 where
  -- no line has a row
  no_row : List Outcome → InsertOutcome
  -- the rows are one batch
  taken : List Outcome → InsertOutcome
  -- they weigh this much, or 2^64 - 1 where that is more, which is too much for a batch
  large : ℕ → InsertOutcome
  -- as many batches wait to be settled as may
  full : InsertOutcome
  -- all batch numbers are used
  spent : InsertOutcome

-- the lines have these outcomes, and some have rows, which can be a batch
pub record CanBeBatch (options : Options) (now : ℕ) (body : List ℕ) (outcomes : List Outcome) : Type 0 where
  pub given : IsIntake options (pos now) body outcomes
  pub some : 0 < length (rows_read outcomes)
  pub light : batch_weight (rows_read outcomes) ≤ batch_limit

-- A body that came in at that moment, and what had been seen once it was served. Of two causes the first counts.
abbrev pub HasInsertOutcome : Options → ℕ → List ℕ → Seen → InsertOutcome → Type 0
HasInsertOutcome options now body seen (no_row outcomes) =
    IsIntake options (pos now) body outcomes × (rows_read outcomes ≡ [])
HasInsertOutcome options now body seen (taken outcomes) = CanBeBatch options now body outcomes × HadRoom seen
HasInsertOutcome options now body seen (large weight) =
    (outcomes : List Outcome) × IsIntake options (pos now) body outcomes
    × (weight ≡ min (batch_weight (rows_read outcomes)) (2 ^ 64 - 1))
    × (batch_limit < batch_weight (rows_read outcomes))
HasInsertOutcome options now body seen full =
    (outcomes : List Outcome) × CanBeBatch options now body outcomes
    × IsFull seen
HasInsertOutcome options now body seen spent =
    (outcomes : List Outcome) × CanBeBatch options now body outcomes
    × (IsFull seen → ⊥) × HasLastNumber seen

abbrev pub insert_effect : InsertOutcome → Effect
insert_effect (no_row outcomes) = nothing
insert_effect (taken outcomes) = adds (rows_read outcomes)
insert_effect (large weight) = nothing
insert_effect full = looks
insert_effect spent = looks

abbrev pub insert_status : InsertOutcome → Status
insert_status (no_row outcomes) = statuses.Served kinds.Json
insert_status (taken outcomes) = statuses.Served kinds.Json
insert_status (large weight) = statuses.ContentTooLarge
insert_status full = statuses.ServiceUnavailable
insert_status spent = statuses.ServiceUnavailable

-- ---- replies

-- this many refused lines are named
abbrev pub named_limit : ℕ
named_limit = 16

abbrev pub named_line : LineFault → List ℕ
named_line fault = decimal fault.line ++ (codes " " ++ kind_text fault.kind)

-- with a comma and a blank between each two
abbrev pub joined : List (List ℕ) → List ℕ
joined [] = []
joined (text ∷ texts) = text ++ flat_map (λ next. codes ", " ++ next) texts

abbrev pub fault_fields : List LineFault → List Field
fault_fields [] = []
fault_fields (fault ∷ faults) =
    (codes "faults", joined (map named_line (take named_limit (fault ∷ faults)))) ∷ []

-- the counts, the number of the batch where there is one, and the first refused lines where there are any
abbrev pub insert_fields : List Outcome → List Field → List Field
insert_fields outcomes batch =
    let refused = refused_from 1 outcomes in
    (codes "accepted", decimal (length (rows_read outcomes)))
    ∷ (batch ++ (fault_fields refused ++ (codes "refused", decimal (length refused)) ∷ []))

-- the reply where nothing was inserted
abbrev pub refusal_text : InsertOutcome → List ℕ
refusal_text (no_row outcomes) = []
refusal_text (taken outcomes) = []
refusal_text (large weight) = codes "Large " ++ (decimal weight ++ codes "\n")
refusal_text full = codes "Full 4096\n"
refusal_text spent = codes "Spent\n"

-- The batch is the last of what was seen, so its number is the length of that.
abbrev pub insert_content : Seen → InsertOutcome → List ℕ
insert_content seen (no_row outcomes) = line_text (insert_fields outcomes [])
insert_content seen (taken outcomes) =
    line_text (insert_fields outcomes ((codes "batch", decimal (length seen.history)) ∷ []))
insert_content seen (large weight) = refusal_text (large weight)
insert_content seen full = refusal_text full
insert_content seen spent = refusal_text spent
