-- The loop that takes an input in, window by window.
use Rattle.std.proofs.Common.{◌≡◌, ◌⊎◌, inl, inr, ℕ, ◌+◌, ◌-◌, ◌<◌, ◌≤◌, Bool, true, false, List, [], ◌∷◌, ◌++◌, length}
use Rattle.std.proofs.Common.{take, Option, Ok, Err, refl, sym, ap, subst, ◌∙◌, arith, append_assoc, length-append}
use Rattle.std.proofs.Math.Seq.{take-append_seam}
use Rattle.std.specs.List.{AllZip}
use Rattle.std.specs.Prelude.{IfErr, IsErrAnd, Result, count_by}
use Rattle.vl_io.specs.Bytes.{Appends, Consumes, IsAtEnd}
use Rattle.vl_io.specs.Change.{Change, IsCut, IsSpent}
use Rattle.vl_io.specs.Lines.{Reading, is_feed, piece_len}
use Rattle.vl_io.proofs.Laws.{Appends-nil, Appends-trans, Consumes-nil, Consumes-trans, Rose-earlier}
use Rattle.log_model.specs.Core.{held_limit}
use Rattle.log_model.specs.Line.{lines_of}
use Rattle.log_model.specs.Row.{Batch, batch_limit, batch_weight}
use Rattle.log_model.proofs.Lines.{lines_le, lines_of-none}
use Rattle.ingest_row.specs.Intake.{Outcome, rows_read}
use Rattle.lone_desk.specs.Seen.{Seen}
use Rattle.vl_pipe.specs.Groups.{Arrival, AreGroups, BeginsWith, EndsLine, FitBatches, HasOutcome, HaveOutcomes}
use Rattle.vl_pipe.specs.Groups.{batches_of, input_limit, outcomes_in, refusals_from, refusals_of}
use Rattle.vl_pipe.specs.Program as model
use Rattle.vl_pipe.specs.Program.{AreFew, HaveNoGroup, IsBeyond}
use Rattle.vl_pipe.specs.Load.{AreOpen, AreSettled, IsFull, IsHeld, IsLoaded, IsTooMuch, IsUnderWay, Run}
use Rattle.vl_pipe.specs.Load.{StopsGroup, StopsHeld, StopsHolding, StopsLoad, StopsUntold, TakesGroup, errors_of}
use Rattle.vl_pipe.specs.Window.{AreTooMany, EndsWindow, GoesOn, IsBody, IsWindow, joined}
use Rattle.vl_pipe.specs.Interrupt.{limit_of, interrupt_at}
use Rattle.vl_io.specs.declared.transfer.ReadFault.{ReadFault}
use Rattle.vl_io.specs.declared.transfer.ReadFault.TheVariants as faults
use Rattle.vl_pipe.specs.declared.interrupt.Limit.{Limit}
use Rattle.vl_pipe.specs.declared.interrupt.Limit.TheVariants.{Long, Large, Full}
use Rattle.vl_pipe.specs.declared.interrupt.Interrupt.{Interrupt}
use Rattle.vl_pipe.specs.declared.interrupt.Interrupt.TheVariants.{Unreadable, Unwritable, Beyond, NoAnswer, NoMemory}
use Rattle.vl_pipe.proofs.GroupLemmas.{AllByRecursion-more, AllZip-length, AreGroups-more, AreGroups-weaken}
use Rattle.vl_pipe.proofs.GroupLemmas.{AreGroups-whole, batches-more, intake-more, outcomes-more, refusals-more}
use Rattle.vl_pipe.proofs.HeldLemmas.{held_few}
use Rattle.vl_pipe.proofs.LineLemmas.{length-lines_of, lines_few, lines_some}
use Rattle.vl_pipe.proofs.WindowLemmas.{behind_bodies, few_enough, some_body}

abbrev pub change : Option (List ℕ) → Option (List ℕ) → ℕ → ℕ → Change
change before after faults_before faults_after =
    record { bytes_before = before; bytes_after = after; faults_before = faults_before; faults_after = faults_after }

abbrev pub run_of : Arrival → List Batch → Change → Option (List ℕ) → ℕ → ℕ → List ℕ → Bool → Run
run_of arrival opened source written faults place tail ended = record {
  arrival = arrival;
  opened = opened;
  source = source;
  written = written;
  faults = faults;
  place = place;
  tail = tail;
  ended = ended;
}

-- what is so at the start of each turn
pub record Loading (arrival : Arrival) (opened : List Batch) (source errors : Change) (reader : Reading) (seen : Seen)
    (lines : ℕ) : Type 0 where
  pub so : IsUnderWay
      (run_of arrival opened source errors.bytes_before errors.faults_before (reader.passed + length reader.group)
      reader.ahead reader.ended) [] errors.bytes_after errors.faults_after seen lines
  pub group_lines : reader.lines ≡ 1000
  pub limit : reader.limit ≡ input_limit
  pub short : length reader.ahead ≤ piece_len
  pub closed : reader.ended ≡ true → reader.ahead ≡ []
  pub stays : source.faults_before ≤ source.faults_after

never : false ≡ true → ⊥
never e = cc

pub loading_starts : (arrival : Arrival) (opened : List Batch) (left : Option (List ℕ)) (s : ℕ) (err : Option (List ℕ))
    (f : ℕ) (reader : Reading) (seen : Seen)
    → reader ≡ record { lines = 1000; limit = input_limit; passed = 0; group = []; ahead = []; ended = false }
    → IsHeld opened seen []
    → Loading arrival opened (change left left s s) (change err err f f) reader seen 0
loading_starts arrival opened left s err f reader seen fresh held =
    subst (λ r. Loading arrival opened (change left left s s) (change err err f f) r seen 0) (sym fresh) (record {
      so = record {
        taken = [];
        groups = [];
        behind = 0;
        gave = Consumes-nil left;
        placed = refl;
        within = omega arith;
        are = tt;
        few = omega arith;
        tail_few = inl (omega arith);
        given = subst (λ ls. AllZip (HasOutcome arrival) ls []) (sym lines_of-none) tt;
        grouped = tt;
        stage = inl (record { ends = inl refl; whole = tt; counted = refl });
        spent = λ e. absurd (never e);
        few_lines = omega arith;
        light = tt;
        held = held;
        named = Appends-nil err;
        stays = omega arith;
      };
      group_lines = refl;
      limit = refl;
      short = omega arith;
      closed = λ e. absurd (never e);
      stays = omega arith;
    })

-- what holds of an error holds of what it became
pub if_err : {T E : Type 0} (result : Result T E) (Q P : E → Type 0) → IsErrAnd result Q → ((e : E) → Q e → P e)
    → IfErr result P
if_err (Ok x) Q P is f = tt
if_err (Err e) Q P is f = f e is

-- ---- a group

-- the sizes of a group
record Sizes (body rest : List ℕ) (ended : Bool) (group : List Outcome) : Type 0 where
  some : 0 < length group
  few : length group ≤ 1000
  full : (length group ≡ 1000) ⊎ ((rest ≡ []) × (ended ≡ true))

sizes : (arrival : Arrival) (body rest : List ℕ) (ended : Bool) (group : List Outcome) → IsBody ended body rest
    → HaveOutcomes arrival body group → Sizes body rest ended group
sizes arrival body rest ended group (inl whole) given =
    let full : length group ≡ 1000 = omega (
      arith,
      AllZip-length (HasOutcome arrival) (lines_of body) group given,
      length-lines_of 1000 body whole,
    ) in
    record { some = omega (arith, full); few = omega (arith, full); full = inl full }
sizes arrival body rest ended group (inr short) given =
    let same = AllZip-length (HasOutcome arrival) (lines_of body) group given in
    record {
      some = omega (arith, same, lines_some body short.0);
      few = omega (arith, same, lines_few body, short.1);
      full = inr (short.2, short.3);
    }

-- a group has no more lines than it may
pub lines_at_most : (ended : Bool) (body rest : List ℕ) → IsBody ended body rest → length (lines_of body) ≤ 1000
lines_at_most ended body rest (inl whole) = omega (arith, length-lines_of 1000 body whole)
lines_at_most ended body rest (inr short) = omega (arith, lines_few body, short.1)

light_more : (groups : List (List Outcome)) (group : List Outcome) → FitBatches groups
    → batch_weight (rows_read group) ≤ batch_limit → FitBatches (groups ++ group ∷ [])
light_more groups group all light =
    AllByRecursion-more (λ g. batch_weight (rows_read g) ≤ batch_limit) groups group all light

-- the bytes of a body come before those of the others
regroup : (taken body others tail : List ℕ) → taken ++ ((body ++ others) ++ tail) ≡ (taken ++ body) ++ (others ++ tail)
regroup taken body others tail =
    ap (λ b. taken ++ b) (append_assoc body others tail) ∙ sym (append_assoc taken body (others ++ tail))

module _ (run : Run) (bodies : List (List ℕ)) (written : Option (List ℕ)) (faults : ℕ) (seen : Seen) (lines : ℕ)
    (u : IsUnderWay run bodies written faults seen lines) where
  begins_at : BeginsWith run.arrival run.source u.groups
  begins_at = record {
    taken = u.taken;
    rest = joined bodies ++ run.tail;
    gave = u.gave;
    within = omega (arith, u.placed, u.within);
    whole = whole u.stage;
    given = u.given;
    grouped = u.grouped;
  }
    where
      whole : AreOpen u.taken u.groups lines ⊎ ((joined bodies ++ run.tail ≡ []) × (run.ended ≡ true))
          → EndsLine u.taken ⊎ ((joined bodies ++ run.tail ≡ []) × IsSpent run.source)
      whole (inl opened) = inl opened.ends
      whole (inr over) = inr (over.0, u.spent over.1)

  few_at : AreFew 8 (joined bodies ++ run.tail)
  few_at = few_enough (length bodies + u.behind) 8 (joined bodies ++ run.tail) u.few (omega arith)
      (behind_bodies run.ended bodies run.tail u.behind (length bodies + u.behind) refl u.are u.tail_few)

  -- memory ran out, or a limit was met
  stops_at : (stop : model.Stop) → model.IsCause run.arrival run.source u.groups begins_at stop
      → (err : Option (List ℕ)) (now : ℕ) → err ≡ written
      → StopsHeld run.arrival run.opened run.source (errors_of run err now) seen stop
  unfolding begins_at
  stops_at stop cause err now same = record {
    groups = u.groups;
    behind = record { begins = begins_at; light = u.light; few = few_at; cause = cause };
    held = u.held;
    named = subst (λ e. Appends run.written e (refusals_of u.groups)) (sym same) u.named;
  }

  -- the run stops here, and nothing was written to the error stream meanwhile
  pub stops_now : (err : Option (List ℕ)) (now : ℕ) → err ≡ written
      → StopsHeld run.arrival run.opened run.source (errors_of run err now) seen model.no_memory
  unfolding begins_at
  stops_now err now same = stops_at model.no_memory tt err now same

module _ (run : Run) (body : List ℕ) (bodies : List (List ℕ)) (err0 err1 : Option (List ℕ)) (f0 f1 : ℕ)
    (old new : Seen) (lines : ℕ) (u : IsUnderWay run (body ∷ bodies) err0 f0 old lines) where
  abbrev Rest : List ℕ
  Rest = joined bodies ++ run.tail

  opened_at : AreOpen u.taken u.groups lines
  opened_at = still_open u.stage
    where
      still_open : AreOpen u.taken u.groups lines ⊎ ((joined (body ∷ bodies) ++ run.tail ≡ []) × (run.ended ≡ true))
          → AreOpen u.taken u.groups lines
      still_open (inl opened) = opened
      still_open (inr over) = absurd (omega (
        arith,
        some_body run.ended body Rest u.are.0,
        ap length over.0,
        length-append (joined (body ∷ bodies)) run.tail,
        length-append body (joined bodies),
      ))

  held_group : (group : List Outcome) → TakesGroup run.arrival body group old new
      → IsHeld run.opened new (batches_of (u.groups ++ group ∷ []))
  held_group group takes = subst (IsHeld run.opened new) (sym (batches-more u.groups group))
      (takes.adds.2 run.opened (batches_of u.groups) u.held)

  gave_group : Consumes run.source.bytes_before run.source.bytes_after ((u.taken ++ body) ++ Rest)
  gave_group = subst (Consumes run.source.bytes_before run.source.bytes_after)
      (regroup u.taken body (joined bodies) run.tail) u.gave

  closes : EndsLine (u.taken ++ body) ⊎ ((Rest ≡ []) × (run.ended ≡ true))
  closes = ends u.are.0
    where
      ends : IsBody run.ended body Rest → EndsLine (u.taken ++ body) ⊎ ((Rest ≡ []) × (run.ended ≡ true))
      ends (inl whole) = inl (inr (
        u.taken ++ whole.front,
        ap (λ b. u.taken ++ b) whole.ends ∙ sym (append_assoc u.taken whole.front (10 ∷ [])),
      ))
      ends (inr short) = inr (short.2, short.3)

  over : (Rest ≡ []) × (run.ended ≡ true) → (Rest ≡ []) × IsSpent run.source
  over is = (is.0, u.spent is.1)

  grouped_with : (group : List Outcome) → HaveOutcomes run.arrival body group
      → AreGroups (u.groups ++ group ∷ []) ((Rest ≡ []) × IsSpent run.source)
  grouped_with group given =
      let size = sizes run.arrival body Rest run.ended group u.are.0 given in
      AreGroups-more u.groups group ((Rest ≡ []) × IsSpent run.source) opened_at.whole size.some size.few
      (last size.full)
    where
      last : (length group ≡ 1000) ⊎ ((Rest ≡ []) × (run.ended ≡ true))
          → (length group ≡ 1000) ⊎ ((Rest ≡ []) × IsSpent run.source)
      last (inl full) = inl full
      last (inr is) = inr (over is)

  placed_with : length (u.taken ++ body) + length (joined bodies) ≡ run.place
  placed_with = omega (arith, u.placed, length-append u.taken body, length-append body (joined bodies))

  -- one group more
  pub loading_more : f0 ≤ f1 → (group : List Outcome) × TakesGroup run.arrival body group old new × Appends err0 err1
      (refusals_from (lines + 1) group)
      → IsUnderWay run bodies err1 f1 new (lines + 1000)
  loading_more stays (group, takes, named) =
      let opened = opened_at in
      let taken_lines = AllZip-length (HasOutcome run.arrival) (lines_of u.taken) (outcomes_in u.groups) u.given in
      record {
        taken = u.taken ++ body;
        groups = u.groups ++ group ∷ [];
        behind = u.behind;
        gave = gave_group;
        placed = placed_with;
        within = u.within;
        are = u.are.1;
        few = omega (arith, u.few);
        tail_few = u.tail_few;
        given = intake-more run.arrival u.taken body u.groups group opened.ends u.given takes.intake;
        grouped = grouped_with group takes.intake;
        stage = stage_with group takes.intake (sizes run.arrival body Rest run.ended group u.are.0 takes.intake).full
            closes;
        spent = u.spent;
        few_lines = omega (
          arith,
          opened.counted,
          taken_lines,
          lines_le u.taken,
          length-append u.taken body,
        );
        light = light_more u.groups group u.light takes.adds.0;
        held = held_group group takes;
        named = subst (Appends run.written err1) (sym (refusals-more u.groups group lines opened.counted))
            (Appends-trans run.written err0 err1 _ _ u.named named);
        stays = omega (arith, u.stays, stays);
      }
    where
      stage_with : (group : List Outcome) → HaveOutcomes run.arrival body group
          → (length group ≡ 1000) ⊎ ((Rest ≡ []) × (run.ended ≡ true))
          → EndsLine (u.taken ++ body) ⊎ ((Rest ≡ []) × (run.ended ≡ true))
          → AreOpen (u.taken ++ body) (u.groups ++ group ∷ []) (lines + 1000) ⊎ ((Rest ≡ []) × (run.ended ≡ true))
      stage_with group given (inr is) ends = inr is
      stage_with group given (inl full) (inr is) = inr is
      stage_with group given (inl full) (inl ends) = inl (record {
        ends = ends;
        whole = AllByRecursion-more (λ g. length g ≡ 1000) u.groups group opened_at.whole full;
        counted = omega (
          arith,
          opened_at.counted,
          full,
          ap length (outcomes-more u.groups group),
          length-append (outcomes_in u.groups) group,
        );
      })

  -- the input with the group
  begins_with : (group : List Outcome) → HaveOutcomes run.arrival body group
      → BeginsWith run.arrival run.source (u.groups ++ group ∷ [])
  begins_with group given = record {
    taken = u.taken ++ body;
    rest = Rest;
    gave = gave_group;
    within = omega (arith, placed_with, u.within);
    whole = whole closes;
    given = intake-more run.arrival u.taken body u.groups group opened_at.ends u.given given;
    grouped = grouped_with group given;
  }
    where
      whole : EndsLine (u.taken ++ body) ⊎ ((Rest ≡ []) × (run.ended ≡ true))
          → EndsLine (u.taken ++ body) ⊎ ((Rest ≡ []) × IsSpent run.source)
      whole (inl ends) = inl ends
      whole (inr is) = inr (over is)

  few_behind : AreFew 7 Rest
  few_behind = few_enough (length bodies + u.behind) 7 Rest (omega (arith, u.few)) (omega arith)
      (behind_bodies run.ended bodies run.tail u.behind (length bodies + u.behind) refl u.are.1 u.tail_few)

  -- The run stops at the group. Where as many batches are unsettled as may be, they are those of the run.
  pub stops_at_group : (IsFull old → length (batches_of u.groups) ≡ held_limit) → (interrupt : Interrupt)
      → StopsGroup run.arrival body lines old new (change err0 err1 f0 f1) interrupt
      → StopsHolding run.arrival run.opened run.source (errors_of run err1 f1) old new interrupt
  unfolding begins_with begins_at
  stops_at_group all Unreadable h = absurd h
  stops_at_group all (NoAnswer overflow) h = absurd h
  stops_at_group all Unwritable (group, takes, cut) = record {
    fault = record {
      groups = u.groups;
      group = group;
      begins = begins_with group takes.intake;
      light = light_more u.groups group u.light takes.adds.0;
      few = few_behind;
      named = subst (λ n. IsCut (errors_of run err1 f1) (refusals_of u.groups) (refusals_from (n + 1) group))
          opened_at.counted (record {
            len = cut.len;
            proper = cut.proper;
            took = Appends-trans run.written err0 err1 _ _ u.named cut.took;
            failed = Rose-earlier run.faults f0 f1 u.stays cut.failed;
          });
    };
    before = u.held;
    after = held_group group takes;
    settled = takes.adds.1;
  }
  stops_at_group all (Beyond limit) (same, (group, given, much)) = (
    stops_at run (body ∷ bodies) err0 f0 old lines u (model.beyond (limit_of limit))
        (beyond limit much (begins_with group given)) err1 f1 same,
    full limit much,
  )
    where
      beyond : (limit : Limit) → IsTooMuch old (rows_read group) limit
          → BeginsWith run.arrival run.source (u.groups ++ group ∷ [])
          → IsBeyond run.arrival run.source u.groups (begins_at run (body ∷ bodies) err0 f0 old lines u)
          (limit_of limit)
      beyond Long h begins = absurd h
      beyond (Large weight) h begins = (group, begins, h.0, h.1)
      beyond Full h begins = (group, begins, all h.0, h.1, h.2)

      full : (limit : Limit) → IsTooMuch old (rows_read group) limit → limit ≡ Full → IsFull old
      full Long h is = absurd h
      full (Large weight) h is = absurd (let other = is in cc)
      full Full h is = h.0
  stops_at_group all NoMemory same =
      stops_at run (body ∷ bodies) err0 f0 old lines u model.no_memory tt err1 f1 same

-- ---- a window

module _ (arrival : Arrival) (opened : List Batch) (left0 left1 left2 : Option (List ℕ)) (s0 s1 s2 : ℕ)
    (err0 err1 : Option (List ℕ)) (f0 f1 : ℕ) (reader next : Reading) (old : Seen) (lines : ℕ)
    (bodies : List (List ℕ)) (more : Result Bool ReadFault)
    (l : Loading arrival opened (change left0 left1 s0 s1) (change err0 err1 f0 f1) reader old lines)
    (w : IsWindow reader next left1 left2 s1 s2 bodies more) where
  abbrev Place : ℕ
  Place = reader.passed + length reader.group + length (joined bodies)

  -- the run, once the window is read
  abbrev pub run_on : Run
  run_on = run_of arrival opened (change left0 left2 s0 s2) err0 f0 Place w.tail w.ended

  spent_on : w.ended ≡ true → IsAtEnd left2
  spent_on ended = at_its_end reader.ended l.so.spent (λ e. (w.idle e).1) (λ e. w.at_end e ended)
    where
      at_its_end : (before : Bool) → (before ≡ true → IsAtEnd left1) → (before ≡ true → left2 ≡ left1)
          → (before ≡ false → IsAtEnd left2) → IsAtEnd left2
      at_its_end true first same now = subst IsAtEnd (sym (same refl)) (first refl)
      at_its_end false first same now = now refl

  none_on : reader.ended ≡ true → joined bodies ++ w.tail ≡ []
  none_on ended =
      let idle = w.idle ended in ap (λ bs. joined bs ++ w.tail) idle.0 ∙ w.closed idle.2

  -- what is so before the groups of the window are loaded
  pub reads_on : IsUnderWay run_on bodies err1 f1 old lines
  reads_on = record {
    taken = l.so.taken;
    groups = l.so.groups;
    behind = w.behind;
    gave = subst (Consumes left0 left2)
        (append_assoc l.so.taken reader.ahead w.piece ∙ ap (λ b. l.so.taken ++ b) (sym w.parts))
        (Consumes-trans left0 left1 left2 _ _ l.so.gave w.consumed);
    placed = omega (arith, l.so.placed);
    within = omega (arith, w.within, l.limit);
    are = w.are;
    few = w.few;
    tail_few = w.tail_few;
    given = l.so.given;
    grouped = grouped l.so.stage;
    stage = stage l.so.stage;
    spent = spent_on;
    few_lines = l.so.few_lines;
    light = l.so.light;
    held = l.so.held;
    named = l.so.named;
    stays = l.so.stays;
  }
    where
      stage : AreOpen l.so.taken l.so.groups lines ⊎ ((joined [] ++ reader.ahead ≡ []) × (reader.ended ≡ true))
          → AreOpen l.so.taken l.so.groups lines ⊎ ((joined bodies ++ w.tail ≡ []) × (w.ended ≡ true))
      stage (inl opened) = inl opened
      stage (inr over) = inr (none_on over.1, (w.idle over.1).2)

      grouped : AreOpen l.so.taken l.so.groups lines ⊎ ((joined [] ++ reader.ahead ≡ []) × (reader.ended ≡ true))
          → AreGroups l.so.groups ((joined bodies ++ w.tail ≡ []) × IsAtEnd left2)
      grouped (inl opened) = AreGroups-whole l.so.groups _ opened.whole
      grouped (inr over) = AreGroups-weaken l.so.groups ((joined [] ++ reader.ahead ≡ []) × IsAtEnd left1) _
          (λ _. (none_on over.1, spent_on (w.idle over.1).2)) l.so.grouped

  module _ (err2 : Option (List ℕ)) (f2 : ℕ) (new : Seen) (lines2 : ℕ)
      (u : IsUnderWay run_on [] err2 f2 new lines2) (source_stays : s1 ≤ s2) where
    -- another turn begins
    pub turns_on : more ≡ Ok true → Loading arrival opened (change left0 left2 s0 s2) (change err0 err2 f0 f2) next
        new lines2
    turns_on is =
        let goes : GoesOn reader next Place w.tail w.ended =
        subst (EndsWindow reader next s1 s2 Place w.tail w.ended) is w.stops in
        record {
          so =
              subst (λ p. IsUnderWay (run_of arrival opened (change left0 left2 s0 s2) err0 f0 p next.ahead next.ended)
              [] err2 f2 new lines2) (sym goes.passed)
              (subst (λ t. IsUnderWay (run_of arrival opened (change left0 left2 s0 s2) err0 f0 Place t next.ended)
              [] err2 f2 new lines2) (sym goes.ahead)
              (subst (λ e. IsUnderWay (run_of arrival opened (change left0 left2 s0 s2) err0 f0 Place w.tail e)
              [] err2 f2 new lines2) (sym goes.closes) u));
          group_lines = goes.lines ∙ l.group_lines;
          limit = goes.limit ∙ l.limit;
          short = goes.short;
          closed = λ e. goes.ahead ∙ w.closed (sym goes.closes ∙ e);
          stays = omega (arith, l.stays, source_stays);
        }

    -- the input is read whole
    pub loaded : more ≡ Ok false → IsLoaded arrival opened (change left0 left2 s0 s2) (change err0 err2 f0 f2) new
    loaded is =
        let over : (w.tail ≡ []) × (w.ended ≡ true) =
        subst (EndsWindow reader next s1 s2 Place w.tail w.ended) is w.stops in
        let spent : IsAtEnd left2 = u.spent over.1 in
        record {
          groups = u.groups;
          begins = record {
            taken = u.taken;
            rest = [];
            gave = subst (λ t. Consumes left0 left2 (u.taken ++ t)) over.0 u.gave;
            within = omega (arith, u.placed, u.within);
            whole = whole u.stage spent;
            given = u.given;
            grouped = AreGroups-weaken u.groups ((joined [] ++ w.tail ≡ []) × IsAtEnd left2) _ (λ p. (refl, p.1))
                u.grouped;
          };
          all = refl;
          spent = spent;
          light = u.light;
          holding = u.held;
          named = u.named;
        }
      where
        none : List ℕ
        none = []

        whole : AreOpen u.taken u.groups lines2 ⊎ ((joined [] ++ w.tail ≡ []) × (w.ended ≡ true)) → IsAtEnd left2
            → EndsLine u.taken ⊎ ((none ≡ []) × IsAtEnd left2)
        whole (inl opened) spent = inl opened.ends
        whole (inr p) spent = inr (refl, spent)

    -- Reading failed.
    pub stops_reading : (fault : ReadFault) → more ≡ Err fault
        → StopsHolding arrival opened (change left0 left2 s0 s2) (change err0 err2 f0 f2) new new (interrupt_at fault)
    unfolding begins_at
    stops_reading faults.Failed is =
        let stops = subst (EndsWindow reader next s1 s2 Place w.tail w.ended) is w.stops in
        stops_at run_on [] err2 f2 new lines2 u model.unreadable
        (Rose-earlier s0 s1 s2 l.stays stops.0, stops.1) err2 f2 refl
    stops_reading faults.Memory is =
        stops_at run_on [] err2 f2 new lines2 u model.no_memory tt err2 f2 refl
    stops_reading faults.Long is =
        let many : AreTooMany Place reader.limit w.tail =
        subst (EndsWindow reader next s1 s2 Place w.tail w.ended) is w.stops in
        let len : input_limit - length u.taken ≡ length many.front =
        omega (arith, many.all, l.limit, u.placed, ap length many.are) in
        let within : take (input_limit - length u.taken) w.tail ≡ many.front =
        ap (λ n. take n w.tail) len ∙ ap (take (length many.front)) many.are
        ∙ take-append_seam many.front many.last in (
          stops_at run_on [] err2 f2 new lines2 u (model.beyond model.long) (
            omega (
              arith,
              many.all,
              many.one,
              l.limit,
              u.placed,
              ap length many.are,
              length-append many.front many.last,
              length-append u.taken w.tail,
            ),
            subst HaveNoGroup (sym within) many.fewer,
          ) err2 f2 refl,
          λ is. absurd (let other = is in cc),
        )

-- no bytes are few
pub nothing_few : AreFew 8 []
nothing_few =
    record {
      grouped = [];
      ahead = [];
      parts = refl;
      lines = inl (let none : count_by is_feed [] < 8000 = omega arith in none);
      short = omega arith;
    }

-- the run stops before anything is read
pub stops_unread : (arrival : Arrival) (opened : List Batch) (left : Option (List ℕ)) (s0 s1 : ℕ)
    (err : Option (List ℕ)) (f0 f1 : ℕ) (seen : Seen) → IsHeld opened seen []
    → StopsHeld arrival opened (change left left s0 s1) (change err err f0 f1) seen model.no_memory
stops_unread arrival opened left s0 s1 err f0 f1 seen held = record {
  groups = [];
  behind = record {
    begins = record {
      taken = [];
      rest = [];
      gave = Consumes-nil left;
      within = omega arith;
      whole = inl (inl refl);
      given = subst (λ ls. AllZip (HasOutcome arrival) ls []) (sym lines_of-none) tt;
      grouped = tt;
    };
    light = tt;
    few = nothing_few;
    cause = tt;
  };
  held = held;
  named = Appends-nil err;
}

module _ (arrival : Arrival) (opened : List Batch) (source errors : Change) (seen : Seen) where
  -- Of a run that settles nothing, the batches are no more than may be unsettled.
  stops_few : (stop : model.Stop) → StopsHeld arrival opened source errors seen stop → AreSettled opened seen
      → StopsUntold arrival source errors stop
  stops_few stop stops settled = record {
    groups = stops.groups;
    behind = stops.behind;
    unsettled = held_few opened seen (batches_of stops.groups) stops.held settled;
    named = stops.named;
  }

  -- why a run stops that settles nothing
  pub stops_unsettled : (new : Seen) (interrupt : Interrupt)
      → StopsHolding arrival opened source errors seen new interrupt → AreSettled opened seen
      → StopsLoad arrival source errors interrupt
  stops_unsettled new Unreadable stops settled = stops_few model.unreadable stops settled
  stops_unsettled new Unwritable stops settled = (
    stops.fault,
    held_few opened new (batches_of (stops.fault.groups ++ stops.fault.group ∷ [])) stops.after
        (stops.settled ∙ settled),
  )
  stops_unsettled new (Beyond limit) stops settled = stops_few (model.beyond (limit_of limit)) stops.0 settled
  stops_unsettled new (NoAnswer overflow) stops settled = absurd stops
  stops_unsettled new NoMemory stops settled = stops_few model.no_memory stops settled

-- the run stops before there is a desk
pub stops_unopened : (arrival : Arrival) (left : Option (List ℕ)) (s0 s1 : ℕ) (err : Option (List ℕ)) (f0 f1 : ℕ)
    → StopsUntold arrival (change left left s0 s1) (change err err f0 f1) model.no_memory
stops_unopened arrival left s0 s1 err f0 f1 =
    let nothing : Seen = record { history = []; settled = 0; turns = [] } in
    stops_few arrival [] (change left left s0 s1) (change err err f0 f1) nothing model.no_memory
    (stops_unread arrival [] left s0 s1 err f0 f1 nothing (record { entered = refl; few = omega arith })) refl
