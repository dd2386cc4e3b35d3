-- How a load ends, once its cause is said.
use Rattle.std.proofs.Common.{◌≡◌, ◌≢◌, inl, inr, ℕ, ◌≤◌, List, [], length, Option, refl, sym}
use Rattle.std.proofs.Common.{subst, arith, append-nil}
use Rattle.std.specs.List.{AllZip}
use Rattle.vl_io.specs.Change.{Change, IsTold, IsUntold, Took}
use Rattle.vl_io.proofs.Laws.{Appends-nil, Consumes-nil}
use Rattle.log_model.specs.Row.{Batch}
use Rattle.log_model.proofs.Lines.{lines_of-none}
use Rattle.vl_vault.specs.Disk.{Image, Past}
use Rattle.vl_vault.specs.Moments.{Always, EachImage}
use Rattle.vl_vault.proofs.Runs.{join, weaken}
use Rattle.part_store.specs.Finds.{Finds, HoldsWhole}
use Rattle.part_store.specs.State.{StoreState}
use Rattle.vl_open.specs.Opening.{TellsReopening, vault_fault_text}
use Rattle.vl_status.specs.declared.status.Status.{Status}
use Rattle.vl_status.specs.declared.status.Status.TheVariants as statuses
use Rattle.vl_pipe.specs.Flushing.{FindsLoaded, FindsReached}
use Rattle.vl_pipe.specs.Groups.{Arrival, HasOutcome, batches_of}
use Rattle.vl_pipe.specs.Interrupt.{limit_of}
use Rattle.vl_pipe.specs.Opened.{IsOpened}
use Rattle.vl_pipe.specs.Pipe.{IsUnread, ReportsInterrupt}
use Rattle.vl_pipe.specs.Program as model
use Rattle.vl_pipe.specs.Program.{stop_text}
use Rattle.vl_pipe.specs.StoredLoad.{EndsLoad, LoadRun, LoadSurvives, StopsFlush, StopsReading, StopsSpent, TookBefore}
use Rattle.vl_pipe.specs.StoredLoad.{spent_text}
use Rattle.vl_pipe.specs.Storing.{LoadsSafely, ReportsStop, StopsStored}
use Rattle.vl_pipe.specs.VaultChange.{VaultChange}
use Rattle.vl_pipe.specs.declared.interrupt.Limit.{Limit}
use Rattle.vl_pipe.specs.declared.interrupt.Limit.TheVariants.{Long, Large, Full}
use Rattle.vl_pipe.specs.declared.interrupt.Interrupt.{Interrupt}
use Rattle.vl_pipe.specs.declared.interrupt.Interrupt.TheVariants.{Unreadable, Unwritable, Beyond, NoAnswer, NoMemory}
use Rattle.vl_pipe.specs.declared.load_stop.LoadStop.{LoadStop}
use Rattle.vl_pipe.specs.declared.load_stop.LoadStop.TheVariants.{Interrupted, Spent, VaultFault}
use Rattle.vl_pipe.proofs.FlushLemmas.{all_map, loaded_held, reached_held}
use Rattle.vl_pipe.proofs.LoadLemmas.{change}
use Rattle.vl_pipe.proofs.PipeLemmas.{told_after}

not_full : (limit : Limit) → limit ≢ Full → limit_of limit ≢ model.full
not_full Long other is = absurd (let same = is in cc)
not_full (Large weight) other is = absurd (let same = is in cc)
not_full Full other is = other refl

module _ (arrival : Arrival) (first : ℕ) (source output : Change) (P Q : List ℕ → Type 0)
    (says : (names : List ℕ) → P names → Q names) where
  said_reading : (stop : model.Stop) → StopsReading arrival first source output P stop
      → StopsReading arrival first source output Q stop
  said_reading stop s =
      record { loaded = s.loaded; cause = s.cause; said = says _ s.said; flushed = s.flushed }

  without_cause : (stop : model.Stop) → StopsReading arrival first source output P stop
      → StopsReading arrival first source output Q model.no_memory
  without_cause stop s = record { loaded = s.loaded; cause = tt; said = says _ s.said; flushed = s.flushed }

  said_flush : (Flushes : List ℕ → List ℕ → Type 0) → StopsFlush arrival first source P Flushes
      → StopsFlush arrival first source Q Flushes
  said_flush Flushes s = record { loaded = s.loaded; said = says _ s.said; flushed = s.flushed }

said_spent : (told : Type 0) (arrival : Arrival) (held : List Batch) (source output : Change) (P Q : List ℕ → Type 0)
    (now : Past) → ((names : List ℕ) → P names → Q names) → StopsSpent told arrival held source output P now
    → StopsSpent told arrival held source output Q now
unfolding said_reading said_flush
said_spent told arrival held source output P Q now says (inl (s, last)) =
    inl (said_reading arrival (length held) source output P Q says model.no_memory s, last)
said_spent told arrival held source output P Q now says (inr (s, spent)) =
    inr (said_flush arrival (length held) source output P Q says (TookBefore output) s, spent)

module _ (told : Type 0) (arrival : Arrival) (source output : Change) (vault since : VaultChange)
    (err0 err1 err2 : Option (List ℕ)) (f0 f1 f2 : ℕ) (stays : f0 ≤ f1) (held : List Batch)
    (opened : IsOpened told vault.before held) (after : since.after ≡ vault.after)
    (from : vault.faults_before ≤ since.faults_before) (risen : since.faults_after ≡ vault.faults_after) where
  abbrev ended : Option (List ℕ) → ℕ → LoadRun
  ended err f = record {
    arrival = arrival;
    source = source;
    vault = vault;
    output = output;
    errors = change err0 err f0 f;
  }

  abbrev First : ℕ
  First = length held

  abbrev Named : List ℕ → Type 0
  Named = Took (change err0 err1 f0 f1)

  abbrev Ends : Status → Type 0
  Ends status = EndsLoad told (ended err2 f2) status

  says : (text : List ℕ) → IsTold (change err1 err2 f1 f2) [] text → (names : List ℕ) → Named names
      → IsTold (change err0 err2 f0 f2) names text
  says text tells names named = told_after arrival source err0 err1 err2 f0 f1 f2 names text stays named tells

  interrupted : (interrupt : Interrupt) (status : Status)
      → StopsStored told arrival held source output (change err0 err1 f0 f1) since (Interrupted interrupt)
      → ReportsInterrupt (change err1 err2 f1 f2) interrupt status → Ends status
  interrupted Unwritable status stops r =
      subst Ends (sym r.0)
      (subst (λ err. EndsLoad told (ended err f2) statuses.WriteFault) (sym r.1)
      (subst (λ f. EndsLoad told (ended err1 f) statuses.WriteFault) (sym r.2) (held, opened, stops)))
  interrupted Unreadable status stops r =
      subst Ends (sym r.0) (
        held,
        opened,
        said_reading arrival First source output Named _ (says (stop_text model.unreadable) r.1)
            model.unreadable stops,
      )
  interrupted (Beyond limit) status stops (inl r) =
      let stop = model.beyond (limit_of limit) in
      subst Ends (sym r.0) (
        held,
        opened,
        inl (
          limit_of limit,
          not_full limit stops.0,
          said_reading arrival First source output Named _ (says (stop_text stop) r.1) stop stops.1,
        ),
      )
  interrupted (Beyond limit) status stops (inr r) =
      subst Ends (sym r.0)
      (inr (
        held,
        opened,
        inl (without_cause arrival First source output Named _ (says (stop_text model.no_memory) r.1)
            (model.beyond (limit_of limit)) stops.1),
      ))
  interrupted (NoAnswer overflow) status stops r = absurd stops
  interrupted NoMemory status (inl stops) r =
      subst Ends (sym r.0)
      (inr (
        held,
        opened,
        inl (said_reading arrival First source output Named _ (says (stop_text model.no_memory) r.1)
            model.no_memory stops),
      ))
  interrupted NoMemory status (inr stops) r =
      subst Ends (sym r.0)
      (inr (
        held,
        opened,
        inr (said_flush arrival First source output Named _ (says (stop_text model.no_memory) r.1)
            (TookBefore output) stops),
      ))

  -- why the load stopped, once it is said
  pub ends_stopped : (stop : LoadStop) (status : Status)
      → StopsStored told arrival held source output (change err0 err1 f0 f1) since stop
      → ReportsStop (change err1 err2 f1 f2) stop status → Ends status
  ends_stopped (Interrupted interrupt) status stops r = interrupted interrupt status stops r
  ends_stopped Spent status stops r =
      subst Ends (sym r.0) (
        held,
        opened,
        inr (said_spent told arrival held source output Named _ vault.after (says spent_text r.1)
            (subst (StopsSpent told arrival held source output Named) after stops)),
      )
  ends_stopped VaultFault status stops r =
      subst Ends (sym r.0)
      (inr (
        held,
        opened,
        (
          omega (arith, stops.0, from, risen),
          said_flush arrival First source output Named _ (says vault_fault_text r.1) (TookBefore output) stops.1,
        ),
      ))

-- the store was not opened
pub load_unopened : (told : Type 0) (run : LoadRun) (status : Status)
    → TellsReopening told run.vault.before run.vault.faults_before run.vault.faults_after run.errors status
    → IsUnread run.source → IsUntold run.output → EndsLoad told run status
load_unopened told run statuses.VaultFault tells unread untold = inl (tells, unread, untold)
load_unopened told run statuses.Damaged tells unread untold = (tells, unread, untold)
load_unopened told run statuses.NoMemory tells unread untold = inl (tells, unread, untold)
load_unopened told run statuses.Done tells unread untold = absurd tells
load_unopened told run statuses.QueryRefused tells unread untold = absurd tells
load_unopened told run statuses.Usage tells unread untold = absurd tells
load_unopened told run statuses.ReadFault tells unread untold = absurd tells
load_unopened told run statuses.WriteFault tells unread untold = absurd tells
load_unopened told run statuses.DoorFault tells unread untold = absurd tells
load_unopened told run statuses.Limit tells unread untold = absurd tells

-- ---- what a crash leaves

plain : (held made : List Batch) (before after : Past) → Always (EachImage (Finds held)) before after
    → Always (EachImage (FindsLoaded held made)) before after
plain held made before after moments =
    weaken (λ past each image may. (0, subst (λ bs. Finds bs image) (sym (append-nil held)) (each image may))) moments

-- Nothing was done but opening the store.
pub survives_unopened : (held : List Batch) (arrival : Arrival) (left : Option (List ℕ)) (s : ℕ)
    (written : Option (List ℕ)) (f : ℕ) (errors : Change) (vault : VaultChange)
    → Always (EachImage (Finds held)) vault.before vault.after
    → LoadSurvives held (record {
      arrival = arrival;
      source = change left left s s;
      vault = vault;
      output = change written written f f;
      errors = errors;
    })
survives_unopened held arrival left s written f errors vault moments = record {
  groups = [];
  begins = record {
    taken = [];
    rest = [];
    gave = Consumes-nil left;
    within = omega arith;
    whole = inl (inl refl);
    given = subst (λ ls. AllZip (HasOutcome arrival) ls []) (sym lines_of-none) tt;
    grouped = tt;
  };
  light = tt;
  moments = plain held [] vault.before vault.after moments;
  counts = [];
  lines = inl (Appends-nil written);
  reached = tt;
}

-- The store was opened, and the batches were loaded.
pub survives_load : {V : Type 0} (told : Type 0) (store : StoreState V) (opened held : List Batch) (run : LoadRun)
    (start : Past) → HoldsWhole store opened → HoldsWhole store held → told
    → Always (EachImage (Finds held)) run.vault.before start
    → LoadsSafely told run.arrival opened run.source run.output start run.vault.after
    → LoadSurvives held run
survives_load told store opened held run start holds_opened holds_held tells opens loads =
    let made = batches_of loads.groups in
    record {
      groups = loads.groups;
      begins = loads.begins;
      light = loads.light;
      moments = join (plain held made run.vault.before start opens)
          (weaken (λ past each image may.
          loaded_held store opened held made holds_opened holds_held image (each image may))
          (loads.safe.moments tells));
      counts = loads.counts;
      lines = loads.lines;
      reached = all_map (λ count. count ≤ loads.reached)
          (λ count. EachImage (FindsReached held made count) run.vault.after) loads.counts
          (λ count within image may. reached_fewer count within made image
          (reached_held store opened held made holds_opened holds_held loads.reached image loads.from
          (loads.safe.finds tells image may))) loads.within;
    }
  where
    reached_fewer : (count : ℕ) → count ≤ loads.reached → (made : List Batch) (image : Image)
        → FindsReached held made loads.reached image → FindsReached held made count image
    reached_fewer count within made image (k, some, finds) = (k, omega (arith, within, some), finds)
