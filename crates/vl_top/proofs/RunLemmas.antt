-- The result of a run, by its command and its status.
use Rattle.std.proofs.Common.{◌≡◌, ◌⊎◌, inl, inr, ℕ, List, [], Option, refl, sym, subst}
use Rattle.log_model.specs.Row.{Batch}
use Rattle.vl_io.specs.Change.{HasFailed, IsTold}
use Rattle.vl_pipe.specs.Asked.{Refuses}
use Rattle.vl_pipe.specs.QueryRefusal.{QueryRefusal}
use Rattle.vl_pipe.specs.QueryRefusal.TheVariants.{Unspelled, Pattern, Memory}
use Rattle.command_line.specs.Asked.{IsCommand}
use Rattle.command_line.specs.declared.command.Command.{Command}
use Rattle.command_line.specs.declared.command.Command.TheVariants.{Pipe, Load, Query, Trial, Serve}
use Rattle.vl_pipe.specs.Ended.{IsAnswerCut, IsNamingCut}
use Rattle.vl_pipe.specs.Groups.{arrival_at}
use Rattle.vl_pipe.specs.Pipe.{EndsReadable, EndsRefused, IsUnread}
use Rattle.vl_pipe.specs.Program.{unreadable_pattern, unspelled}
use Rattle.vl_pipe.specs.Refused.{ReportsRefused}
use Rattle.vl_pipe.specs.Stored.{EndsReadableQuery}
use Rattle.vl_pipe.specs.StoredLoad.{EndsLoad}
use Rattle.vl_io.specs.Moments.{FirstTold}
use Rattle.vl_status.specs.Status.{no_memory_text}
use Rattle.vl_status.specs.Status.{status_number}
use Rattle.vl_status.specs.declared.status.Status.{Status}
use Rattle.vl_status.specs.declared.status.Status.TheVariants.{Done, Damaged, DoorFault, Limit, NoMemory, QueryRefused}
use Rattle.vl_status.specs.declared.status.Status.TheVariants.{ReadFault, Usage, VaultFault, WriteFault}
use Rattle.vl_top.specs.Run.{CannotBeAsked, EndsTask, ForTask, GoesWell, IsLoad, IsNoCommand}
use Rattle.vl_top.specs.Run.{IsPipe, IsQuery}
use Rattle.vl_top.specs.Run.{Effects, EndsLoading, EndsQuery, IsRun, IsServe, IsTrial, Outlives, Run, Says, load_run, pipe_run, query_run, usage_text}
use Rattle.vl_top.specs.Server.{HasFailedDoor}
use Rattle.vl_top.specs.Vault.{HasBatches, HasVault}
use Rattle.vl_top.specs.Task.{LoadWords, PipeWords, QueryWords, task_of}

-- ---- what a command says

-- the words of `pipe`
abbrev pipe_words : Option (List ℕ) → List ℕ → PipeWords
pipe_words fields text = record { stream_fields = fields; query = text }

-- the words of `load`
abbrev load_words : List ℕ → Option (List ℕ) → LoadWords
load_words dir fields = record { dir = dir; stream_fields = fields }

-- the words of `query`
abbrev query_words : List ℕ → List ℕ → QueryWords
query_words dir text = record { dir = dir; query = text }

-- The clock's first reading was this.
abbrev FirstReading : Run → ℕ → Type 0
FirstReading run now = FirstTold run.does.moments_before run.does.moments_after now

-- ---- words that are a command

no_usage : Usage ≡ QueryRefused → ⊥
no_usage is = cc

no_memory_usage : Usage ≡ NoMemory → ⊥
no_memory_usage is = cc

no_usage_query : (told : Type 0) (does : Effects) (words : QueryWords) → EndsQuery told does words Usage → ⊥
no_usage_query told does words (unread, (now, first, inl e)) = e.ends
no_usage_query told does words (unread, (now, first, inr e)) = by_said e.said
  where
    by_said : ReportsRefused does.errors e.refusal Usage → ⊥
    by_said (inl told_so) = no_usage told_so.0
    by_said (inr told_so) = no_memory_usage told_so.0

no_usage_load : (told : Type 0) (does : Effects) (words : LoadWords) → EndsLoading told does words Usage → ⊥
no_usage_load told does words (now, first, e) = e

module _ (told : Type 0) (run : Run) where
  says_readable : (fields : Option (List ℕ)) (text : List ℕ) (now : ℕ) (status : Status)
      → IsCommand run.words (Pipe fields text) → FirstReading run now
      → EndsReadable (pipe_run run.does (pipe_words fields text) now) status → Says told run status
  says_readable fields text now Done is first e =
      (Pipe fields text, is, record { query = e.query; spelled = e.spelled; now = now; first = first; facts = e.ends })
  says_readable fields text now QueryRefused is first e = inr
      (Pipe fields text, is, record { query = e.query; spelled = e.spelled; now = now; first = first; facts = e.ends })
  says_readable fields text now Usage is first e = absurd e.ends
  says_readable fields text now ReadFault is first e =
      (Pipe fields text, is, record { query = e.query; spelled = e.spelled; now = now; first = first; facts = e.ends })
  says_readable fields text now WriteFault is first e =
      (Pipe fields text, is, record { query = e.query; spelled = e.spelled; now = now; first = first; facts = e.ends })
  says_readable fields text now VaultFault is first e = absurd e.ends
  says_readable fields text now Damaged is first e = absurd e.ends
  says_readable fields text now DoorFault is first e = absurd e.ends
  says_readable fields text now Limit is first e =
      (Pipe fields text, is, (e.ends.0, record { query = e.query; spelled = e.spelled; now = now; first = first; facts = e.ends.1 }))
  says_readable fields text now NoMemory is first e = inr
      (Pipe fields text, is, record { query = e.query; spelled = e.spelled; now = now; first = first; facts = e.ends })

  says_refused : (fields : Option (List ℕ)) (text : List ℕ) (now : ℕ) (status : Status)
      → IsCommand run.words (Pipe fields text) → EndsRefused (pipe_run run.does (pipe_words fields text) now) status
      → Says told run status
  says_refused fields text now status is e = by_said e.refusal e.refused e.said
    where
      by_said : (refusal : QueryRefusal) → Refuses text refusal → ReportsRefused run.does.errors refusal status
          → Says told run status
      by_said (Unspelled fault) why (inl told_so) = subst (Says told run) (sym told_so.0)
          (inl (unspelled fault, (Pipe fields text, is, (why, e.unread, told_so.2))))
      by_said (Pattern nth) why (inl told_so) = subst (Says told run) (sym told_so.0)
          (inl (unreadable_pattern nth, (Pipe fields text, is, (why, e.unread, told_so.2))))
      by_said Memory why (inl told_so) = absurd (told_so.1 refl)
      by_said refusal why (inr told_so) = subst (Says told run) (sym told_so.0) (inl (e.unread, told_so.1))

  says : (command : Command) (status : Status) → IsCommand run.words command
      → EndsTask told run.does (task_of command) status → Says told run status
  says (Pipe fields text) status is (now, first, inl e) = says_readable fields text now status is first e
  says (Pipe fields text) status is (now, first, inr e) = says_refused fields text now status is e
  says (Load dir fields) Done is e = (Load dir fields, is, e)
  says (Load dir fields) QueryRefused is e = inr (Load dir fields, is, e)
  says (Load dir fields) Usage is e = absurd (no_usage_load told run.does (load_words dir fields) e)
  says (Load dir fields) ReadFault is e = (Load dir fields, is, e)
  says (Load dir fields) WriteFault is e = (Load dir fields, is, e)
  says (Load dir fields) VaultFault is e = (Load dir fields, is, e)
  says (Load dir fields) Damaged is e = (Load dir fields, is, e)
  says (Load dir fields) DoorFault is e = (Load dir fields, is, e)
  says (Load dir fields) Limit is e = (Load dir fields, is, e)
  says (Load dir fields) NoMemory is e = inr (Load dir fields, is, e)
  says (Query dir text) Done is e = (Query dir text, is, e)
  says (Query dir text) QueryRefused is e = inr (Query dir text, is, e)
  says (Query dir text) Usage is e = absurd (no_usage_query told run.does (query_words dir text) e)
  says (Query dir text) ReadFault is e = (Query dir text, is, e)
  says (Query dir text) WriteFault is e = (Query dir text, is, e)
  says (Query dir text) VaultFault is e = (Query dir text, is, e)
  says (Query dir text) Damaged is e = (Query dir text, is, e)
  says (Query dir text) DoorFault is e = (Query dir text, is, e)
  says (Query dir text) Limit is e = (Query dir text, is, e)
  says (Query dir text) NoMemory is e = inr (Query dir text, is, e)
  says (Trial seed rows) Done is e = (Trial seed rows, is, e)
  says (Trial seed rows) QueryRefused is e = inr (Trial seed rows, is, e)
  says (Trial seed rows) Usage is e = absurd e.1.2
  says (Trial seed rows) ReadFault is e = (Trial seed rows, is, e)
  says (Trial seed rows) WriteFault is e = (Trial seed rows, is, e)
  says (Trial seed rows) VaultFault is e = (Trial seed rows, is, e)
  says (Trial seed rows) Damaged is e = (Trial seed rows, is, e)
  says (Trial seed rows) DoorFault is e = (Trial seed rows, is, e)
  says (Trial seed rows) Limit is e = (Trial seed rows, is, e)
  says (Trial seed rows) NoMemory is e = inr (Trial seed rows, is, e)
  says (Serve dir http syslog workers) Done is e = (Serve dir http syslog workers, is, e)
  says (Serve dir http syslog workers) QueryRefused is e = inr (Serve dir http syslog workers, is, e)
  says (Serve dir http syslog workers) Usage is e = absurd e.2
  says (Serve dir http syslog workers) ReadFault is e = (Serve dir http syslog workers, is, e)
  says (Serve dir http syslog workers) WriteFault is e = (Serve dir http syslog workers, is, e)
  says (Serve dir http syslog workers) VaultFault is e = (Serve dir http syslog workers, is, e)
  says (Serve dir http syslog workers) Damaged is e = (Serve dir http syslog workers, is, e)
  says (Serve dir http syslog workers) DoorFault is e = (Serve dir http syslog workers, is, e)
  says (Serve dir http syslog workers) Limit is e = (Serve dir http syslog workers, is, e)
  says (Serve dir http syslog workers) NoMemory is e = inr (Serve dir http syslog workers, is, e)

-- ---- what a command cannot come to

module _ (told : Type 0) (run : Run) where
  -- a query that cannot be asked is refused
  refuses : (command : Command) (status : Status) → EndsTask told run.does (task_of command) status
      → CannotBeAsked (task_of command) → (status ≡ QueryRefused) ⊎ (status ≡ NoMemory)
  refuses (Pipe fields text) status (now, first, inl e) cannot = absurd (e.askable cannot)
  refuses (Pipe fields text) status (now, first, inr e) cannot = by_said e.said
    where
      by_said : ReportsRefused run.does.errors e.refusal status → (status ≡ QueryRefused) ⊎ (status ≡ NoMemory)
      by_said (inl told_so) = inl told_so.0
      by_said (inr told_so) = inr told_so.0
  refuses (Query dir text) status (unread, (now, first, inl e)) cannot = absurd (e.askable cannot)
  refuses (Query dir text) status (unread, (now, first, inr e)) cannot = by_said e.said
    where
      by_said : ReportsRefused run.does.errors e.refusal status → (status ≡ QueryRefused) ⊎ (status ≡ NoMemory)
      by_said (inl told_so) = inl told_so.0
      by_said (inr told_so) = inr told_so.0
  refuses (Load dir fields) status e cannot = absurd cannot
  refuses (Trial seed rows) status e cannot = absurd cannot
  refuses (Serve dir http syslog workers) status e cannot = absurd cannot

  well : (fields : Option (List ℕ)) (text : List ℕ) (now : ℕ) (status : Status)
      → IsCommand run.words (Pipe fields text) → FirstReading run now
      → EndsReadable (pipe_run run.does (pipe_words fields text) now) status → (HasFailed run.does.source → ⊥)
      → (HasFailed run.does.output → ⊥) → (HasFailed run.does.errors → ⊥) → GoesWell told run status
  well fields text now Done is first e source output errors = tt
  well fields text now QueryRefused is first e source output errors =
      (Pipe fields text, is, record { query = e.query; spelled = e.spelled; now = now; first = first; facts = e.ends })
  well fields text now Usage is first e source output errors = absurd e.ends
  well fields text now ReadFault is first e source output errors = absurd (source e.ends.behind.cause.0)
  well fields text now WriteFault is first e source output errors = by_cut e.ends
    where
      by_cut : IsAnswerCut e.query (arrival_at fields now) run.does.source run.does.output run.does.errors
          ⊎ IsNamingCut (arrival_at fields now) run.does.source run.does.output run.does.errors
          → GoesWell told run WriteFault
      by_cut (inl cut) = absurd (output cut.written.failed)
      by_cut (inr cut) = absurd (errors cut.fault.named.failed)
  well fields text now VaultFault is first e source output errors = absurd e.ends
  well fields text now Damaged is first e source output errors = absurd e.ends
  well fields text now DoorFault is first e source output errors = absurd e.ends
  well fields text now Limit is first e source output errors = tt
  well fields text now NoMemory is first e source output errors = tt

  well_refused : (refusal : QueryRefusal) (status : Status) → refusal ≡ Memory
      → ReportsRefused run.does.errors refusal status → GoesWell told run status
  well_refused refusal status free (inl told_so) = absurd (told_so.1 free)
  well_refused refusal status free (inr told_so) = subst (GoesWell told run) (sym told_so.0) tt

  goes_well : (command : Command) (status : Status) → IsCommand run.words command
      → EndsTask told run.does (task_of command) status → IsPipe (task_of command) → (HasFailed run.does.source → ⊥)
      → (HasFailed run.does.output → ⊥) → (HasFailed run.does.errors → ⊥) → GoesWell told run status
  goes_well (Pipe fields text) status is (now, first, inl e) asked source output errors =
      well fields text now status is first e source output errors
  goes_well (Pipe fields text) status is (now, first, inr e) asked source output errors =
      well_refused e.refusal status (e.free asked) e.said
  goes_well (Load dir fields) status is e asked source output errors = absurd asked
  goes_well (Query dir text) status is e asked source output errors = absurd asked
  goes_well (Trial seed rows) status is e asked source output errors = absurd asked
  goes_well (Serve dir http syslog workers) status is e asked source output errors = absurd asked

  trial_goes : (command : Command) (status : Status) → EndsTask told run.does (task_of command) status
      → IsTrial (task_of command) → (HasFailed run.does.output → ⊥) → (status ≡ Done) ⊎ (status ≡ NoMemory)
  trial_goes (Pipe fields text) status e trial output = absurd trial
  trial_goes (Load dir fields) status e trial output = absurd trial
  trial_goes (Query dir text) status e trial output = absurd trial
  trial_goes (Trial seed rows) Done e trial output = inl refl
  trial_goes (Trial seed rows) QueryRefused e trial output = absurd e.1.2
  trial_goes (Trial seed rows) Usage e trial output = absurd e.1.2
  trial_goes (Trial seed rows) ReadFault e trial output = absurd e.1.2
  trial_goes (Trial seed rows) WriteFault e trial output = absurd (output e.1.2.2.failed)
  trial_goes (Trial seed rows) VaultFault e trial output = absurd e.1.2
  trial_goes (Trial seed rows) Damaged e trial output = absurd e.1.2
  trial_goes (Trial seed rows) DoorFault e trial output = absurd e.1.2
  trial_goes (Trial seed rows) Limit e trial output = absurd e.1.2
  trial_goes (Trial seed rows) NoMemory e trial output = inr refl
  trial_goes (Serve dir http syslog workers) status e trial output = absurd trial

  server_goes : (command : Command) (status : Status) → EndsTask told run.does (task_of command) status
      → IsServe (task_of command) → (HasFailedDoor run.does.doors → ⊥) → HasVault told run.does.vault
      → (status ≡ Done) ⊎ (status ≡ Limit) ⊎ (status ≡ NoMemory)
  server_goes (Pipe fields text) status e serve doors vault = absurd serve
  server_goes (Load dir fields) status e serve doors vault = absurd serve
  server_goes (Query dir text) status e serve doors vault = absurd serve
  server_goes (Trial seed rows) status e serve doors vault = absurd serve
  server_goes (Serve dir http syslog workers) Done e serve doors vault = inl refl
  server_goes (Serve dir http syslog workers) QueryRefused e serve doors vault = absurd e.2
  server_goes (Serve dir http syslog workers) Usage e serve doors vault = absurd e.2
  server_goes (Serve dir http syslog workers) ReadFault e serve doors vault = absurd e.2
  server_goes (Serve dir http syslog workers) WriteFault e serve doors vault = absurd e.2
  server_goes (Serve dir http syslog workers) VaultFault e serve doors vault = absurd (vault.2 e.2.0)
  server_goes (Serve dir http syslog workers) Damaged e serve doors vault = absurd (e.2.0 vault.0 vault.1)
  server_goes (Serve dir http syslog workers) DoorFault e serve doors vault = absurd (doors e.2.0)
  server_goes (Serve dir http syslog workers) Limit e serve doors vault = inr (inl refl)
  server_goes (Serve dir http syslog workers) NoMemory e serve doors vault = inr (inr refl)

  -- a query over a vault that has batches
  stored : (dir text : List ℕ) (now : ℕ) (status : Status)
      → EndsReadableQuery told (query_run run.does (query_words dir text) now) status
      → (HasFailed run.does.output → ⊥) → HasVault told run.does.vault
      → (status ≡ Done) ⊎ (status ≡ QueryRefused) ⊎ (status ≡ NoMemory)
  stored dir text now Done e output vault = inl refl
  stored dir text now QueryRefused e output vault = inr (inl refl)
  stored dir text now Usage e output vault = absurd e.ends
  stored dir text now ReadFault e output vault = absurd e.ends
  stored dir text now WriteFault e output vault = absurd (output e.ends.ends.2.failed)
  stored dir text now VaultFault e output vault = absurd (vault.2 e.ends.0)
  stored dir text now Damaged e output vault = absurd (e.ends.0 vault.0 vault.1)
  stored dir text now DoorFault e output vault = absurd e.ends
  stored dir text now Limit e output vault = absurd e.ends
  stored dir text now NoMemory e output vault = inr (inr refl)

  stored_refused : (refusal : QueryRefusal) (status : Status) → refusal ≡ Memory
      → ReportsRefused run.does.errors refusal status → (status ≡ Done) ⊎ (status ≡ QueryRefused) ⊎ (status ≡ NoMemory)
  stored_refused refusal status free (inl told_so) = absurd (told_so.1 free)
  stored_refused refusal status free (inr told_so) = inr (inr told_so.0)

  stored_goes : (command : Command) (status : Status) → EndsTask told run.does (task_of command) status
      → IsQuery (task_of command) → (HasFailed run.does.output → ⊥) → HasVault told run.does.vault
      → (status ≡ Done) ⊎ (status ≡ QueryRefused) ⊎ (status ≡ NoMemory)
  stored_goes (Query dir text) status (unread, (now, first, inl e)) asked output vault =
      stored dir text now status e output vault
  stored_goes (Query dir text) status (unread, (now, first, inr e)) asked output vault =
      stored_refused e.refusal status (e.free asked) e.said
  stored_goes (Pipe fields text) status e asked output vault = absurd asked
  stored_goes (Load dir fields) status e asked output vault = absurd asked
  stored_goes (Trial seed rows) status e asked output vault = absurd asked
  stored_goes (Serve dir http syslog workers) status e asked output vault = absurd asked

  loads_well : (dir : List ℕ) (fields : Option (List ℕ)) (now : ℕ) (status : Status)
      → EndsLoad told (load_run run.does (load_words dir fields) now) status
      → (HasFailed run.does.source → ⊥) → (HasFailed run.does.output → ⊥)
      → (HasFailed run.does.errors → ⊥) → HasVault told run.does.vault
      → (status ≡ Done) ⊎ (status ≡ Limit) ⊎ (status ≡ NoMemory)
  loads_well dir fields now Done e source output errors vault = inl refl
  loads_well dir fields now QueryRefused e source output errors vault = absurd e
  loads_well dir fields now Usage e source output errors vault = absurd e
  loads_well dir fields now ReadFault e source output errors vault = absurd (source e.2.cause.0)
  loads_well dir fields now WriteFault e source output errors vault = elim e.2 [
    | inl names ↦ absurd (errors names.fault.named.failed)
    | inr flush ↦ absurd (output flush.flushed.failed)
  ]
  loads_well dir fields now VaultFault e source output errors vault = elim e [
    | inl tells ↦ absurd (vault.2 tells.0.0)
    | inr stopped ↦ absurd (vault.2 stopped.2.0)
  ]
  loads_well dir fields now Damaged e source output errors vault = absurd (e.0.0 vault.0 vault.1)
  loads_well dir fields now DoorFault e source output errors vault = absurd e
  loads_well dir fields now Limit e source output errors vault = inr (inl refl)
  loads_well dir fields now NoMemory e source output errors vault = inr (inr refl)

  load_goes : (command : Command) (status : Status) → EndsTask told run.does (task_of command) status
      → IsLoad (task_of command) → (HasFailed run.does.source → ⊥) → (HasFailed run.does.output → ⊥)
      → (HasFailed run.does.errors → ⊥) → HasVault told run.does.vault
      → (status ≡ Done) ⊎ (status ≡ Limit) ⊎ (status ≡ NoMemory)
  load_goes (Load dir fields) status (now, first, e) load source output errors vault =
      loads_well dir fields now status e source output errors vault
  load_goes (Pipe fields text) status e load source output errors vault = absurd load
  load_goes (Query dir text) status e load source output errors vault = absurd load
  load_goes (Trial seed rows) status e load source output errors vault = absurd load
  load_goes (Serve dir http syslog workers) status e load source output errors vault = absurd load

-- ---- a run

module _ (told : Type 0) (run : Run) where
  -- What a crash leaves: no call was made on the vault, or what the task says.
  abbrev pub Survives : Type 0
  Survives = told → (held : List Batch) → HasBatches run.does.vault held
      → ForTask run.words (Outlives run.does held) ⊎ (run.does.vault.after ≡ run.does.vault.before)

  -- the words are a command, and no other one
  pub command_runs : ((a b : Command) → IsCommand run.words a → IsCommand run.words b → a ≡ b) → (command : Command)
      (status : Status) → IsCommand run.words command → EndsTask told run.does (task_of command) status → Survives
      → run.status ≡ status_number status → IsRun told run
  command_runs one command status is ends survives number = record {
    status = status;
    number = number;
    says = says told run command status is ends;
    unusable = λ none. absurd (none command is);
    unasked = λ other. refuses told run command status ends
        (subst (λ c. CannotBeAsked (task_of c)) (one other.0 command other.1 is) other.2);
    query = λ other. goes_well told run command status is ends
        (subst (λ c. IsPipe (task_of c)) (one other.0 command other.1 is) other.2);
    stored = λ other. stored_goes told run command status ends
        (subst (λ c. IsQuery (task_of c)) (one other.0 command other.1 is) other.2);
    load = λ other. load_goes told run command status ends
        (subst (λ c. IsLoad (task_of c)) (one other.0 command other.1 is) other.2);
    trial = λ other. trial_goes told run command status ends
        (subst (λ c. IsTrial (task_of c)) (one other.0 command other.1 is) other.2);
    server = λ other. server_goes told run command status ends
        (subst (λ c. IsServe (task_of c)) (one other.0 command other.1 is) other.2);
    crash = survives;
  }

  -- memory ran out, and nothing was read
  pub no_memory_runs : IsUnread run.does.source → IsTold run.does.errors [] no_memory_text
      → run.does.vault.after ≡ run.does.vault.before → run.status ≡ status_number NoMemory → IsRun told run
  no_memory_runs unread told_so same number = record {
    status = NoMemory;
    number = number;
    says = inl (unread, told_so);
    unusable = λ _. inr refl;
    unasked = λ _. inr refl;
    query = λ _ _ _ _. tt;
    stored = λ _ _ _. inr (inr refl);
    load = λ _ _ _ _ _. inr (inr refl);
    trial = λ _ _. inr refl;
    server = λ _ _ _. inr (inr refl);
    crash = λ _ _ _. inr same;
  }

  -- the words are not a command
  pub usage_runs : IsNoCommand run.words → IsTold run.does.errors [] usage_text
      → run.does.vault.after ≡ run.does.vault.before → run.status ≡ status_number Usage → IsRun told run
  usage_runs none told_so same number = record {
    status = Usage;
    number = number;
    says = (none, told_so);
    unusable = λ _. inl refl;
    unasked = λ other. absurd (none other.0 other.1);
    query = λ other. absurd (none other.0 other.1);
    stored = λ other. absurd (none other.0 other.1);
    load = λ other. absurd (none other.0 other.1);
    trial = λ other. absurd (none other.0 other.1);
    server = λ other. absurd (none other.0 other.1);
    crash = λ _ _ _. inr same;
  }
