-- How a query over an input ends, by what the objects of the outside gave and took.
use Rattle.std.specs.Prelude.{ℕ, ◌+◌, List, [], ◌∷◌, ◌++◌, length}
use Rattle.vl_io.specs.Change.{Change, Gave, IsCut, IsSpent, IsTold, IsUntold, Took}
use Rattle.lone_desk.specs.Question.{Question}
use Rattle.ingest_row.specs.Intake.{Outcome}
use Rattle.vl_pipe.specs.Groups.{Arrival, BeginsWith, FitBatches, FitUnsettled, outcomes_in, refusals_from}
use Rattle.vl_pipe.specs.Groups.{refusals_of}
use Rattle.vl_pipe.specs.Program.{AreFew, IsAnswer, Overflow, Overflows, Stop, StopsBehind}
use Rattle.vl_pipe.specs.Program.{overflow_text, said_of_query, stop_text}

-- The source gave an input to its end. The answer to it was written to the output, and its refused lines are named on
-- the error stream.
pub record IsAnswered (query : Question) (arrival : Arrival) (source output errors : Change) : Type 0 where
  pub input : List ℕ
  pub answer : List ℕ
  pub refusals : List ℕ
  pub gave : Gave source input
  pub spent : IsSpent source
  pub answered : IsAnswer query arrival input answer refusals
  pub written : Took output answer
  pub named : Took errors refusals

-- The same, but the output failed, and took a proper prefix of the answer.
pub record IsAnswerCut (query : Question) (arrival : Arrival) (source output errors : Change) : Type 0 where
  pub input : List ℕ
  pub answer : List ℕ
  pub refusals : List ℕ
  pub gave : Gave source input
  pub spent : IsSpent source
  pub answered : IsAnswer query arrival input answer refusals
  pub written : IsCut output [] answer
  pub named : Took errors refusals

-- The source gave an input to its end, and its refused lines are named. The evaluation over it overflows, which is
-- said.
pub record IsUnanswered (query : Question) (arrival : Arrival) (source errors : Change) : Type 0 where
  pub input : List ℕ
  pub refusals : List ℕ
  pub cause : Overflow
  pub gave : Gave source input
  pub spent : IsSpent source
  pub overflows : Overflows query arrival input refusals cause
  pub said : IsTold errors refusals (said_of_query (overflow_text cause))

-- The error stream failed while the refused lines of a group were named, right after it was loaded. No more was read
-- after it than seven groups and what one read gives.
pub record IsNamingFault (arrival : Arrival) (source errors : Change) : Type 0 where
  pub groups : List (List Outcome)
  pub group : List Outcome
  pub begins : BeginsWith arrival source (groups ++ group ∷ [])
  pub light : FitBatches (groups ++ group ∷ [])
  pub few : AreFew 7 begins.rest
  pub named : IsCut errors (refusals_of groups) (refusals_from (length (outcomes_in groups) + 1) group)

-- The error stream failed so, the batches are no more than may be unsettled, and nothing was written to the output.
pub record IsNamingCut (arrival : Arrival) (source output errors : Change) : Type 0 where
  pub fault : IsNamingFault arrival source errors
  pub unsettled : FitUnsettled (fault.groups ++ fault.group ∷ [])
  pub unwritten : IsUntold output

-- Groups were loaded, whose batches are no more than may be unsettled, and their refused lines named. Then the run
-- stopped, and says why.
pub record IsStopped (arrival : Arrival) (source errors : Change) (stop : Stop) : Type 0 where
  pub groups : List (List Outcome)
  pub behind : StopsBehind arrival source groups stop
  pub unsettled : FitUnsettled groups
  pub said : IsTold errors (refusals_of groups) (stop_text stop)
