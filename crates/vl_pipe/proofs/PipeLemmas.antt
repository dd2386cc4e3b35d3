-- From the input to the answer.
use Rattle.std.proofs.Common.{◌≡◌, ◌⊎◌, inl, inr, ℕ, ℤ, pos, ◌≤◌, false, true, List, [], ◌++◌, take, Option, refl}
use Rattle.std.proofs.Common.{sym, subst}
use Rattle.std.specs.List.{AllByRecursion}
use Rattle.vl_io.specs.Bytes.{Appends}
use Rattle.vl_io.specs.Change.{Change, Gave, IsSpent, IsTold, Took}
use Rattle.vl_io.proofs.Laws.{Appends-trans, Rose-earlier}
use Rattle.log_model.specs.History.{rows_of}
use Rattle.log_model.specs.Row.{Row}
use Rattle.lone_desk.specs.Answer.{FailsOver, IsAnswerOver}
use Rattle.lone_desk.specs.Asked.{IsNoReadableQuery, IsReadableQuery}
use Rattle.lone_desk.specs.Patterns.{CanBeRead, all_patterns}
use Rattle.lone_desk.specs.Query.{IsQueryText, batch_list_rows}
use Rattle.lone_desk.specs.Question.{Question}
use Rattle.lone_desk.specs.Seen.{Seen}
use Rattle.lone_desk.proofs.QueryLemmas.{history_rows}
use Rattle.vl_pipe.specs.Groups.{Arrival, FitUnsettled, batches_of, refusals_of}
use Rattle.vl_pipe.specs.Program as model
use Rattle.vl_pipe.specs.Program.{AreFew, IsAnswer, IsTakenIn, Overflows, fault_of, overflow_text, said_of_query}
use Rattle.vl_pipe.specs.Program.{stop_text}
use Rattle.vl_pipe.specs.Load.{AreSettled, IsLoaded, StopsLoad, StopsUntold}
use Rattle.vl_pipe.specs.Interrupt.{limit_of, overflow_of}
use Rattle.vl_pipe.specs.Pipe.{EndsPipe, IsPiped, ReportsInterrupt, StopsAnswer, WritesAnswer}
use Rattle.vl_pipe.specs.Ended.{IsAnswerCut, IsAnswered, IsNamingCut, IsStopped}
use Rattle.vl_status.specs.declared.status.Status.{Status}
use Rattle.vl_status.specs.declared.status.Status.TheVariants as statuses
use Rattle.vl_pipe.specs.declared.interrupt.Interrupt.{Interrupt}
use Rattle.vl_pipe.specs.declared.interrupt.Interrupt.TheVariants.{Unreadable, Unwritable, Beyond, NoAnswer, NoMemory}
use Rattle.vl_pipe.specs.declared.pipe.Pipe.{Pipe}
use Rattle.vl_pipe.proofs.GroupLemmas.{append_nil, AreGroups-weaken}
use Rattle.vl_pipe.proofs.HeldLemmas.{held_few}
use Rattle.vl_pipe.proofs.LoadLemmas.{change, nothing_few}

-- The source gave an input to its end, and its refused lines are named. The evaluation over it overflows, and nothing
-- is written about that yet.
pub record OverflowsUntold (query : Question) (arrival : Arrival) (source errors : Change) (cause : model.Overflow)
    : Type 0 where
  pub input : List ℕ
  pub refusals : List ℕ
  pub gave : Gave source input
  pub spent : IsSpent source
  pub overflows : Overflows query arrival input refusals cause
  pub named : Took errors refusals

-- Why loading and answering stop, and what was written. Where the evaluation overflows, memory may run out before that
-- is said.
abbrev pub StopsPipe : Question → Arrival → Change → Change → Change → Interrupt → Type 0
StopsPipe query arrival source output errors Unwritable =
    IsAnswerCut query arrival source output errors ⊎ IsNamingCut arrival source output errors
StopsPipe query arrival source output errors Unreadable = StopsLoad arrival source errors Unreadable
StopsPipe query arrival source output errors (Beyond limit) = StopsLoad arrival source errors (Beyond limit)
StopsPipe query arrival source output errors (NoAnswer overflow) =
    OverflowsUntold query arrival source errors (overflow_of overflow) × StopsLoad arrival source errors NoMemory
StopsPipe query arrival source output errors NoMemory = StopsLoad arrival source errors NoMemory

-- the run stopped while it loaded, and nothing was written
pub stops_load : (query : Question) (arrival : Arrival) (source errors : Change) (written : Option (List ℕ)) (f0 f1 : ℕ)
    (interrupt : Interrupt) → StopsLoad arrival source errors interrupt
    → StopsPipe query arrival source (change written written f0 f1) errors interrupt
stops_load query arrival source errors written f0 f1 Unwritable stops =
    inr (record { fault = stops.0; unsettled = stops.1; unwritten = refl })
stops_load query arrival source errors written f0 f1 Unreadable stops = stops
stops_load query arrival source errors written f0 f1 (Beyond limit) stops = stops
stops_load query arrival source errors written f0 f1 (NoAnswer overflow) stops = absurd stops
stops_load query arrival source errors written f0 f1 NoMemory stops = stops

module _ (query : Question) (arrival : Arrival) (now : ℤ) (at : now ≡ pos arrival.moment)
    (source output errors : Change) (seen : Seen) (l : IsLoaded arrival [] source errors seen)
    (settled : AreSettled [] seen) where
  -- The batches are no more than may be unsettled.
  few : FitUnsettled l.groups
  few = held_few [] seen (batches_of l.groups) l.holding settled

  -- what the input becomes
  taken : IsTakenIn arrival l.begins.taken (refusals_of l.groups) (batches_of l.groups)
  taken = record {
    within = l.begins.within;
    groups = l.groups;
    intake = l.begins.given;
    grouped = AreGroups-weaken l.groups _ (Unit {0}) (λ _. tt) l.begins.grouped;
    light = l.light;
    are = refl;
    named = refl;
  }

  gave_all : Gave source l.begins.taken
  gave_all =
      subst (Gave source) (append_nil l.begins.taken)
      (subst (λ rest. Gave source (l.begins.taken ++ rest)) l.all l.begins.gave)

  -- what holds of the rows that have been seen holds of the rows of the batches
  over : (holds : ℤ → List Row → Type 0) → holds now (rows_of seen.history)
      → holds (pos arrival.moment) (batch_list_rows (batches_of l.groups))
  over holds is =
      subst (λ moment. holds moment (batch_list_rows (batches_of l.groups))) at
      (subst (holds now) (history_rows seen.history (batches_of l.groups) l.holding.entered) is)

  answer : (lines : List ℕ) → IsAnswerOver query now (rows_of seen.history) lines
      → IsAnswer query arrival l.begins.taken lines (refusals_of l.groups)
  answer lines is = record {
    batches = batches_of l.groups;
    taken = taken;
    few = few;
    over = over (λ now rows. IsAnswerOver query now rows lines) is;
  }

  pub answered : WritesAnswer query now (rows_of seen.history) output → IsAnswered query arrival source output errors
  answered (lines, is, written) = record {
    input = l.begins.taken;
    answer = lines;
    refusals = refusals_of l.groups;
    gave = gave_all;
    spent = l.spent;
    answered = answer lines is;
    written = written;
    named = l.named;
  }

  -- memory ran out after the input was loaded
  stops_loaded : StopsUntold arrival source errors model.no_memory
  stops_loaded = record {
    groups = l.groups;
    behind = record {
      begins = l.begins;
      light = l.light;
      few = subst (AreFew 8) (sym l.all) nothing_few;
      cause = tt;
    };
    unsettled = few;
    named = l.named;
  }

  untold : (cause : model.Overflow) → FailsOver query now (rows_of seen.history) (fault_of cause)
      → OverflowsUntold query arrival source errors cause
  untold cause fails = record {
    input = l.begins.taken;
    refusals = refusals_of l.groups;
    gave = gave_all;
    spent = l.spent;
    overflows = record {
      batches = batches_of l.groups;
      taken = taken;
      few = few;
      fails = over (λ now rows. FailsOver query now rows (fault_of cause)) fails;
    };
    named = l.named;
  }

  -- why the answer is not written
  pub unanswered : (interrupt : Interrupt) → StopsAnswer query now (rows_of seen.history) output interrupt
      → StopsPipe query arrival source output errors interrupt
  unanswered Unreadable h = absurd h
  unanswered Unwritable (lines, is, cut) = inl (record {
    input = l.begins.taken;
    answer = lines;
    refusals = refusals_of l.groups;
    gave = gave_all;
    spent = l.spent;
    answered = answer lines is;
    written = cut;
    named = l.named;
  })
  unanswered (Beyond limit) h = absurd h
  unanswered (NoAnswer overflow) fails = (untold (overflow_of overflow) fails, stops_loaded)
  unanswered NoMemory h = stops_loaded

module _ (arrival : Arrival) (source : Change) (err0 err1 err2 : Option (List ℕ)) (f0 f1 f2 : ℕ) where
  -- what is reported after the names
  pub told_after : (named text : List ℕ) → f0 ≤ f1 → Appends err0 err1 named → IsTold (change err1 err2 f1 f2) [] text
      → IsTold (change err0 err2 f0 f2) named text
  told_after named text stays written (inl whole) = inl (Appends-trans err0 err1 err2 named text written whole)
  told_after named text stays written (inr cut) = inr (record {
    len = cut.len;
    proper = cut.proper;
    took = Appends-trans err0 err1 err2 named (take cut.len text) written cut.took;
    failed = Rose-earlier f0 f1 f2 stays cut.failed;
  })

  stopped : (stop : model.Stop) → f0 ≤ f1 → StopsUntold arrival source (change err0 err1 f0 f1) stop → IsTold
      (change err1 err2 f1 f2) [] (stop_text stop)
      → IsStopped arrival source (change err0 err2 f0 f2) stop
  stopped stop stays h told =
      record {
        groups = h.groups;
        behind = h.behind;
        unsettled = h.unsettled;
        said = told_after (refusals_of h.groups)
            (stop_text stop) stays h.named told;
      }

  -- a limit was met, but there was no memory to say so
  without_memory : (stop : model.Stop) → StopsUntold arrival source (change err0 err1 f0 f1) stop
      → StopsUntold arrival source (change err0 err1 f0 f1) model.no_memory
  without_memory stop h = record {
    groups = h.groups;
    behind = record {
      begins = h.behind.begins;
      light = h.behind.light;
      few = h.behind.few;
      cause = tt;
    };
    unsettled = h.unsettled;
    named = h.named;
  }

  -- what an interrupt is, once it is said
  pub reported : (query : Question) (output : Change) (interrupt : Interrupt) (status : Status) → f0 ≤ f1
      → StopsPipe query arrival source output (change err0 err1 f0 f1) interrupt → ReportsInterrupt
      (change err1 err2 f1 f2) interrupt status
      → EndsPipe query arrival source output (change err0 err2 f0 f2) status
  reported query output Unwritable status stays h r =
      subst (EndsPipe query arrival source output (change err0 err2 f0 f2)) (sym r.0)
      (subst (λ e. EndsPipe query arrival source output (change err0 e f0 f2) statuses.WriteFault) (sym r.1)
      (subst (λ f. EndsPipe query arrival source output (change err0 err1 f0 f) statuses.WriteFault) (sym r.2) h))
  reported query output Unreadable status stays h r =
      subst (EndsPipe query arrival source output (change err0 err2 f0 f2)) (sym r.0)
      (stopped model.unreadable stays h r.1)
  reported query output (Beyond limit) status stays h (inl r) =
      subst (EndsPipe query arrival source output (change err0 err2 f0 f2)) (sym r.0)
      (limit_of limit, stopped (model.beyond (limit_of limit)) stays h r.1)
  reported query output (Beyond limit) status stays h (inr r) =
      subst (EndsPipe query arrival source output (change err0 err2 f0 f2)) (sym r.0)
      (stopped model.no_memory stays (without_memory (model.beyond (limit_of limit)) h) r.1)
  reported query output (NoAnswer overflow) status stays h (inl r) =
      subst (EndsPipe query arrival source output (change err0 err2 f0 f2)) (sym r.0)
      (record {
        input = h.0.input;
        refusals = h.0.refusals;
        cause = overflow_of overflow;
        gave = h.0.gave;
        spent = h.0.spent;
        overflows = h.0.overflows;
        said = told_after h.0.refusals (said_of_query (overflow_text (overflow_of overflow))) stays h.0.named r.1;
      })
  reported query output (NoAnswer overflow) status stays h (inr r) =
      subst (EndsPipe query arrival source output (change err0 err2 f0 f2)) (sym r.0)
      (stopped model.no_memory stays h.1 r.1)
  reported query output NoMemory status stays h r =
      subst (EndsPipe query arrival source output (change err0 err2 f0 f2)) (sym r.0)
      (stopped model.no_memory stays h r.1)

never : false ≡ true → ⊥
never e = cc

-- how the command ends, where its query can be asked
pub ends_readable : (asked : Pipe) (source output errors : Change) (status : Status) (text : List ℕ) (query : Question)
    → text ≡ asked.query → IsQueryText text query → AllByRecursion CanBeRead (all_patterns query)
    → (IsNoReadableQuery text → false ≡ true) → EndsPipe query asked.arrival source output errors status
    → IsPiped (record { asked = asked; source = source; output = output; errors = errors }) status
ends_readable asked source output errors status text query same spelled readable refused ends = inl (record {
  readable = subst IsReadableQuery same (query, spelled, readable);
  askable = λ no. never (refused (subst IsNoReadableQuery (sym same) no));
  query = query;
  spelled = subst (λ text. IsQueryText text query) same spelled;
  ends = ends;
})
