-- The result of a query over an input: its answer, and the texts that are written where there is none.
use Rattle.std.specs.Prelude.{◌≡◌, ℕ, ◌-◌, ◌*◌, ◌⊎◌, ◌<◌, ◌≤◌, List, [], ◌∷◌, ◌++◌, length, take, codes, pos}
use Rattle.std.specs.Prelude.{decimal}
use Rattle.vl_io.specs.Change.{Change, HasFailed}
use Rattle.vl_io.specs.Lines.{AreFewer, AreLines, piece_len}
use Rattle.log_model.specs.Core.{held_limit}
use Rattle.log_model.specs.Row.{Batch, batch_limit, batch_weight}
use Rattle.lone_desk.specs.Answer.{FailsOver, IsAnswerOver}
use Rattle.lone_desk.specs.SearchFault.{SearchFault}
use Rattle.lone_desk.specs.SearchFault.TheVariants as running
use Rattle.lone_desk.specs.Question.{Question}
use Rattle.lone_desk.specs.Faults.{fault_text}
use Rattle.lone_desk.specs.QueryFault.{QueryFault}
use Rattle.ingest_row.specs.Intake.{Outcome, rows_read}
use Rattle.lone_desk.specs.Asked.{HasUnreadablePattern, IsUnspelled}
use Rattle.lone_desk.specs.Query.{batch_list_rows}
use Rattle.vl_status.specs.Status.{no_memory_text}
use Rattle.vl_pipe.specs.Groups.{Arrival, AreGroups, BeginsWith, FitBatches, HaveOutcomes, batches_of}
use Rattle.vl_pipe.specs.Groups.{input_limit, outcomes_in, refusals_of}

-- The lines of the input become these batches, and `refusals` names the lines that are not rows.
pub record IsTakenIn (arrival : Arrival) (input refusals : List ℕ) (batches : List Batch) : Type 0 where
  pub within : length input ≤ input_limit
  pub groups : List (List Outcome)
  pub intake : HaveOutcomes arrival input (outcomes_in groups)
  pub grouped : AreGroups groups (Unit {0})
  pub light : FitBatches groups
  pub are : batches ≡ batches_of groups
  pub named : refusals ≡ refusals_of groups

-- The input becomes batches, which are no more than may be unsettled, and the answer is that to the query over their
-- rows.
pub record IsAnswer (query : Question) (arrival : Arrival) (input answer refusals : List ℕ) : Type 0 where
  pub batches : List Batch
  pub taken : IsTakenIn arrival input refusals batches
  pub few : length batches ≤ held_limit
  pub over : IsAnswerOver query (pos arrival.moment) (batch_list_rows batches) answer

-- why the evaluation of a query has no records
pub data Overflow : Type 0 where
  -- 2^32 rows hold, or more
  many_rows : Overflow
  -- the total of the function of `stats` with this name is not a 64-bit integer
  total : List ℕ → Overflow

abbrev pub fault_of : Overflow → SearchFault
fault_of many_rows = running.ManyRows
fault_of (total name) = running.Overflow name

-- The same, but the evaluation over their rows overflows for this cause.
pub record Overflows (query : Question) (arrival : Arrival) (input refusals : List ℕ) (cause : Overflow) : Type 0 where
  pub batches : List Batch
  pub taken : IsTakenIn arrival input refusals batches
  pub few : length batches ≤ held_limit
  pub fails : FailsOver query (pos arrival.moment) (batch_list_rows batches) (fault_of cause)

-- a limit that an input may meet
pub data Limit : Type 0 where
  -- it has too many bytes
  long : Limit
  -- the rows of a group weigh this much, which is too much for a batch
  large : ℕ → Limit
  -- a group has rows, and as many batches as can be held came before it
  full : Limit

-- why a run ends before its answer
pub data Stop : Type 0 where
  unreadable : Stop
  beyond : Limit → Stop
  no_memory : Stop

-- fewer lines than a group has end in these bytes
abbrev pub HaveNoGroup : List ℕ → Type 0
HaveNoGroup bytes = AreFewer 1000 bytes

-- These bytes are at most `groups` groups and what one read gives.
pub record AreFew (groups : ℕ) (bytes : List ℕ) : Type 0 where
  -- the bytes of the groups
  pub grouped : List ℕ
  pub ahead : List ℕ
  pub parts : bytes ≡ grouped ++ ahead
  pub lines : AreFewer (groups * 1000) grouped ⊎ AreLines (groups * 1000) grouped
  pub short : length ahead ≤ piece_len

-- The limit is met after these groups, which are the first ones of the input. Of an input that is too long they are
-- all that end within its limit.
abbrev pub IsBeyond : (arrival : Arrival) (source : Change) (groups : List (List Outcome))
    → BeginsWith arrival source groups → Limit → Type 0
IsBeyond arrival source groups begins long =
    (input_limit < length (begins.taken ++ begins.rest))
    × HaveNoGroup (take (input_limit - length begins.taken) begins.rest)
IsBeyond arrival source groups begins (large weight) =
    (group : List Outcome) × BeginsWith arrival source (groups ++ group ∷ [])
    × (weight ≡ batch_weight (rows_read group)) × (batch_limit < weight)
IsBeyond arrival source groups begins full =
    (group : List Outcome) × BeginsWith arrival source (groups ++ group ∷ [])
    × (length (batches_of groups) ≡ held_limit) × (0 < length (rows_read group))
    × (batch_weight (rows_read group) ≤ batch_limit)

-- What stops a run after these groups. Before a read that failed they are all groups that were read.
abbrev pub IsCause : (arrival : Arrival) (source : Change) (groups : List (List Outcome))
    → BeginsWith arrival source groups → Stop → Type 0
IsCause arrival source groups begins unreadable = HasFailed source × HaveNoGroup begins.rest
IsCause arrival source groups begins (beyond limit) = IsBeyond arrival source groups begins limit
IsCause arrival source groups begins no_memory = Unit {0}

-- The first groups of the input were loaded. Then the run stopped. No more was read after them than eight groups and
-- what one read gives.
pub record StopsBehind (arrival : Arrival) (source : Change) (groups : List (List Outcome)) (stop : Stop) : Type 0 where
  pub begins : BeginsWith arrival source groups
  pub light : FitBatches groups
  pub few : AreFew 8 begins.rest
  pub cause : IsCause arrival source groups begins stop

abbrev pub limit_text : Limit → List ℕ
limit_text long = codes "input long"
limit_text (large weight) = codes "large " ++ decimal weight
limit_text full = codes "full 4096"

abbrev pub stop_text : Stop → List ℕ
stop_text unreadable = codes "read fault" ++ 10 ∷ []
stop_text (beyond limit) = limit_text limit ++ 10 ∷ []
stop_text no_memory = no_memory_text

-- ---- queries without an answer

-- why a query is refused before anything is read
pub data Refusal : Type 0 where
  -- its text spells no query
  unspelled : QueryFault → Refusal
  -- the regular expression with this number, counted from 0 in the order of the text, is the first that cannot be read
  unreadable_pattern : ℕ → Refusal

abbrev pub refusal_text : Refusal → List ℕ
refusal_text (unspelled fault) = fault_text fault
refusal_text (unreadable_pattern nth) = codes "RegexRefused number " ++ decimal nth

abbrev pub overflow_text : Overflow → List ℕ
overflow_text many_rows = codes "ManyRows"
overflow_text (total name) = codes "Overflow in " ++ name

-- the error text of a query that has no answer
abbrev pub said_of_query : List ℕ → List ℕ
said_of_query cause = codes "query: " ++ (cause ++ 10 ∷ [])

-- Why the query with this text is refused before anything is read: it has this fault, or this pattern of it is the
-- first that cannot be read.
abbrev pub IsRefusedText : List ℕ → Refusal → Type 0
IsRefusedText text (unspelled fault) = IsUnspelled text fault
IsRefusedText text (unreadable_pattern nth) = HasUnreadablePattern text nth
