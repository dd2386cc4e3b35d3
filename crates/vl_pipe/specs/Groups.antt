-- What an input of the program gives: rows, in batches, and the names of its refused lines.
use Rattle.std.specs.Prelude.{◌≡◌, ◌⊎◌, ℕ, ◌+◌, pos, ◌<◌, ◌≤◌, List, [], ◌∷◌, ◌++◌, length, flat_map, codes, decimal}
use Rattle.std.specs.Prelude.{Option, None, Some}
use Rattle.std.specs.List.{AllByRecursion, AllZip}
use Rattle.vl_io.specs.Change.{Change, Gave, IsSpent}
use Rattle.log_model.specs.Core.{held_limit}
use Rattle.log_model.specs.Line.{lines_of}
use Rattle.log_model.specs.Row.{Batch, batch_limit, batch_weight}
use Rattle.ingest_row.specs.Asked.{pieces}
use Rattle.ingest_row.specs.Ingest.{Options, plain}
use Rattle.ingest_row.specs.Intake.{Outcome, IsOutcome, refused_from, rows_read}
use Rattle.ingest_row.specs.Refusal.{kind_text}
use Rattle.ingest_row.specs.declared.body.LineFault.{LineFault}
use Rattle.ingest_row.specs.declared.kind.LineKind.{LineKind}
use Rattle.lone_desk.specs.Alone.{batches_of_rows}

-- how lines come in: what is asked for them, and the moment
pub record Arrival : Type 0 where
  pub options : Options
  pub moment : ℕ

-- Where a list is given, the labels of rows are those of their fields that it names. It is cut at commas.
abbrev pub labelled_by : Option (List ℕ) → Options
labelled_by None = plain
labelled_by (Some list) = record plain { stream_fields = pieces list }

abbrev pub arrival_at : Option (List ℕ) → ℕ → Arrival
arrival_at stream_fields now = record { options = labelled_by stream_fields; moment = now }

-- what becomes of a line
abbrev pub HasOutcome : Arrival → List ℕ → Outcome → Type 0
HasOutcome arrival line outcome = IsOutcome arrival.options (pos arrival.moment) line outcome

-- each line of the input has its outcome, in order
abbrev pub HaveOutcomes : Arrival → List ℕ → List Outcome → Type 0
HaveOutcomes arrival input outcomes = AllZip (HasOutcome arrival) (lines_of input) outcomes

-- names the line with this number
abbrev pub refusal_text : ℕ → LineKind → List ℕ
refusal_text number kind = codes "line " ++ (decimal number ++ (codes ": " ++ (kind_text kind ++ 10 ∷ [])))

-- names each refused line, where the first line has this number
abbrev pub refusals_from : ℕ → List Outcome → List ℕ
refusals_from number outcomes = flat_map (λ fault. refusal_text fault.line fault.kind) (refused_from number outcomes)

-- Lines go in groups of a thousand. A group with fewer is the last, and after it the input is over.
abbrev pub AreGroups : List (List Outcome) → Type 0 → Type 0
AreGroups [] over = Unit {0}
AreGroups (group ∷ groups) over =
    (0 < length group) × (length group ≤ 1000) × ((length group ≡ 1000) ⊎ (groups ≡ [] × over)) × AreGroups groups over

abbrev pub outcomes_in : List (List Outcome) → List Outcome
outcomes_in groups = flat_map (λ group. group) groups

-- names the refused lines of the groups
abbrev pub refusals_of : List (List Outcome) → List ℕ
refusals_of groups = refusals_from 1 (outcomes_in groups)

-- each group with a row makes one batch
abbrev pub batches_of : List (List Outcome) → List Batch
batches_of groups = flat_map (λ group. batches_of_rows (rows_read group)) groups

-- the rows of each group weigh no more than a batch may
abbrev pub FitBatches : List (List Outcome) → Type 0
FitBatches groups = AllByRecursion (λ group. batch_weight (rows_read group) ≤ batch_limit) groups

-- the batches of the groups are no more than may be unsettled
abbrev pub FitUnsettled : List (List Outcome) → Type 0
FitUnsettled groups = length (batches_of groups) ≤ held_limit

-- how many bytes an input may have
abbrev pub input_limit : ℕ
input_limit = 4_294_967_296

-- nothing, or whole lines
abbrev pub EndsLine : List ℕ → Type 0
EndsLine bytes = (bytes ≡ []) ⊎ ((text : List ℕ) × (bytes ≡ text ++ 10 ∷ []))

-- The source gave the lines of these groups first, within the limit of an input. They are whole: only the last one of
-- an input may lack its line feed.
pub record BeginsWith (arrival : Arrival) (source : Change) (groups : List (List Outcome)) : Type 0 where
  pub taken : List ℕ
  -- what it gave after them
  pub rest : List ℕ
  pub gave : Gave source (taken ++ rest)
  pub within : length taken ≤ input_limit
  pub whole : EndsLine taken ⊎ ((rest ≡ []) × IsSpent source)
  pub given : HaveOutcomes arrival taken (outcomes_in groups)
  pub grouped : AreGroups groups ((rest ≡ []) × IsSpent source)

-- the names of these lines, where this many came before
abbrev pub names_after : ℕ → List LineFault → List ℕ
names_after before faults = flat_map (λ fault. refusal_text (before + fault.line) fault.kind) faults
