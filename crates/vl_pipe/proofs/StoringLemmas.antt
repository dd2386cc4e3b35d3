-- What a load keeps between its groups, and how it stops.
use Rattle.std.proofs.Common.{◌≡◌, ◌⊎◌, inl, inr, ℕ, suc, ◌+◌, ◌-◌, ◌*◌, ◌<◌, ◌≤◌, List, [], ◌∷◌, ◌++◌, length, drop}
use Rattle.std.proofs.Common.{Option, refl, sym, ap, subst, ◌∙◌, arith, length-append, append-nil, append_assoc}
use Rattle.std.proofs.Common.{Ok, Err}
use Rattle.std.proofs.lemmas.List.{length-map}
use Rattle.std.specs.Prelude.{IfErr, OnOk, Result}
use Rattle.std.specs.List.{AllByRecursion}
use Rattle.vl_io.specs.Bytes.{Appends}
use Rattle.vl_io.specs.Change.{Change, IsCut, Took}
use Rattle.vl_io.proofs.Laws.{Appends-nil, Appends-trans, Rose-earlier}
use Rattle.log_model.specs.Core.{held_limit}
use Rattle.log_model.specs.History.{batches_in, entry_rows}
use Rattle.log_model.specs.Row.{Batch, Row}
use Rattle.vl_vault.specs.Disk.{Past}
use Rattle.vl_vault.specs.Moments.{EachImage, now}
use Rattle.part_store.specs.Finds.{Finds, FindsParts}
use Rattle.day_model.specs.Days.{DayRows}
use Rattle.part_store.specs.State as stores
use Rattle.part_store.specs.State.{StoreState}
use Rattle.log_desk.specs.Keeping.{HoldsFront, IsMerge}
use Rattle.ingest_row.specs.Intake.{Outcome, rows_read}
use Rattle.lone_desk.specs.Alone.{batches_of_rows, last_number}
use Rattle.lone_desk.specs.Seen.{Seen}
use Rattle.vl_pipe.specs.Flushing.{FindsFrom, IsSafe, flush_line, flush_lines}
use Rattle.vl_pipe.specs.Flushing.{flush_text, flush_text_so_far, round_counts}
use Rattle.vl_pipe.specs.Groups.{Arrival, batches_of, refusals_from}
use Rattle.vl_pipe.specs.Interrupt.{limit_of}
use Rattle.vl_pipe.specs.Load.{IsFull, IsHeld, IsLoaded, IsUnderWay, Run, StopsHeld, StopsHolding, TakesGroup}
use Rattle.vl_pipe.specs.Load.{errors_of}
use Rattle.vl_pipe.specs.Opened.{IsOpenDesk}
use Rattle.vl_pipe.specs.Program as model
use Rattle.vl_pipe.specs.Program.{AreFew}
use Rattle.vl_pipe.specs.StoredLoad.{HasLines, HasLoaded, IsSpentStore, LoadsAll, StopsFlush, StopsReading, TookBefore}
use Rattle.vl_pipe.specs.Storing.{Base, FailsFlush, HasStopped, IsFlushed, IsStoring, LoadsSafely, StopsFlushing}
use Rattle.vl_pipe.specs.Storing.{StopsInsert, StopsLine, StopsStored, output_since, vault_since}
use Rattle.vl_pipe.specs.declared.interrupt.Interrupt.{Interrupt}
use Rattle.vl_pipe.specs.declared.interrupt.Interrupt.TheVariants.{Unreadable, Unwritable, Beyond, NoAnswer, NoMemory}
use Rattle.vl_pipe.specs.declared.load_stop.LoadStop.{LoadStop}
use Rattle.vl_pipe.specs.declared.load_stop.LoadStop.TheVariants.{Interrupted, Spent, VaultFault}
use Rattle.vl_pipe.proofs.FlushLemmas.{counts_more, counts_within, lines_more, safe_more, safe_round, safe_whole}
use Rattle.vl_pipe.proofs.FlushLemmas.{so_far_is, take_all, take_front, text_is, text_whole, all_more}
use Rattle.vl_pipe.proofs.GroupLemmas.{batches-more}
use Rattle.vl_pipe.proofs.LoadLemmas.{change, loading_more, nothing_few, stops_at_group, stops_now, stops_unread}

at_most_one : (rows : List Row) → length (batches_of_rows rows) ≤ 1
at_most_one [] = omega arith
at_most_one (row ∷ rows) = omega arith

-- A store holds the first of more batches as well.
holds_more : {V : Type 0} (store : StoreState V) (batches more : List Batch) → HoldsFront store batches
    → HoldsFront store (batches ++ more)
holds_more store batches more holds = record {
  within = omega (arith, holds.within, length-append batches more);
  are = rw (take_front store.front batches more holds.within) holds.are;
}

-- of a store the vault does not matter
abbrev forget : {V : Type 0} → StoreState V → StoreState (Unit {0})
forget store = record {
  vault = tt;
  parts = store.parts;
  generation = store.generation;
  front = store.front;
  next_file = store.next_file;
  halted = store.halted;
}

module _ {V : Type 0} (told : Type 0) (past : V → Past) (faults : V → ℕ) where
  -- a load begins
  pub storing_starts : (store : StoreState V) (seen : Seen) (count : ℕ) (written : Option (List ℕ)) (failed : ℕ)
      → IsOpenDesk store seen → count ≡ store.front
      → (told → EachImage (FindsParts store.front store.parts) (past store.vault))
      → IsStoring told past faults (batches_in seen.history)
      (record { start = past store.vault; faults = faults store.vault; written = written; failed = failed })
      store seen count written failed
  storing_starts store seen count written failed opened counted finds =
      let batches = batches_in seen.history in
      let whole : length batches ≡ store.front = opened.whole.whole in
      record {
        keeps = opened.keeps;
        on = opened.on;
        settled = opened.settled;
        counted = counted ∙ sym whole ∙ length-map seen.history entry_rows;
        rounds = 0;
        whole = omega (arith, whole);
        few = omega (arith, counted);
        safe = record {
          moments = λ tells. now (each tells);
          finds = λ tells. subst (λ n. EachImage (FindsFrom n batches) (past store.vault)) whole (each tells);
        };
        lines = Appends-nil written;
        stays = omega arith;
        risen = omega arith;
      }
    where
      each : told → EachImage (FindsFrom (length (batches_in seen.history)) (batches_in seen.history))
          (past store.vault)
      each tells image may =
          let batches = batches_in seen.history in (
            length batches,
            omega arith,
            omega arith,
            subst (λ bs. Finds bs image) (sym (take_all (length batches) batches refl)) (
              store.parts,
              subst (λ n. FindsParts n store.parts image) (sym opened.whole.whole) (finds tells image may),
              opened.whole.are,
            ),
          )

  module _ (opened : List Batch) (base : Base) (store : StoreState V) (seen : Seen) (count : ℕ)
      (written : Option (List ℕ)) (failed : ℕ)
      (s : IsStoring told past faults opened base store seen count written failed) where
    abbrev Batches : List Batch
    Batches = batches_in seen.history

    as_many : length Batches ≡ count
    as_many = length-map seen.history entry_rows ∙ sym s.counted

    held_self : IsHeld Batches seen []
    held_self = record { entered = sym (append-nil Batches); few = omega (arith, s.counted, s.few, s.settled) }

    -- a group was inserted
    pub storing_inserted : (arrival : Arrival) (body : List ℕ) (group : List Outcome) (new : Seen) (next : ℕ)
        → TakesGroup arrival body group seen new → count < store.front + 16 → next ≡ length new.history
        → IsStoring told past faults opened base store new next written failed
    storing_inserted arrival body group new next takes room counted =
        let more = batches_of_rows (rows_read group) in
        let entered : batches_in new.history ≡ Batches ++ more = (takes.adds.2 Batches [] held_self).entered in
        record {
          keeps = record {
            holds = subst (HoldsFront store) (sym entered) (holds_more store Batches more s.keeps.holds);
            settled = omega (arith, takes.adds.1, s.keeps.settled);
          };
          on = s.on;
          settled = takes.adds.1 ∙ s.settled;
          counted = counted;
          rounds = s.rounds;
          whole = s.whole;
          few = omega (
            arith,
            counted,
            length-map new.history entry_rows,
            ap length entered,
            length-append Batches more,
            at_most_one (rows_read group),
            as_many,
            room,
          );
          safe = subst (λ bs. IsSafe told (length opened) store.front bs base.start (past store.vault)) (sym entered)
              (safe_more told (length opened) store.front Batches more base.start (past store.vault) s.safe);
          lines = s.lines;
          stays = s.stays;
          risen = s.risen;
        }

    from : length opened ≤ store.front
    from = omega (arith, s.whole)

    few_held : store.front ≤ length Batches
    few_held = s.keeps.holds.within

    module _ (next : StoreState V) (after : Seen) (written2 : Option (List ℕ)) (failed2 : ℕ)
        (f : IsFlushed told past faults store next seen after (change written written2 failed failed2)) where
      safe_flushed : IsSafe told (length opened) (length Batches) Batches base.start (past next.vault)
      safe_flushed =
          safe_whole told (length opened) store.front Batches base.start (past next.vault)
          (safe_round told (length opened) store.front Batches base.start (past store.vault) (past next.vault) s.safe
          from few_held f.moments) f.finds

      lines_flushed : Appends base.written written2
          (flush_lines (round_counts (length opened) s.rounds) ++ flush_line count)
      lines_flushed = Appends-trans base.written written written2 _ _ s.lines
          (subst (λ n. Appends written written2 (flush_line n)) (sym s.counted) f.line)

      -- a round was run where it was due
      pub storing_flushed : store.front + 16 ≤ count → (next_count : ℕ) → next_count ≡ count
          → IsStoring told past faults opened base next after next_count written2 failed2
      storing_flushed due next_count same =
          let all : count ≡ length opened + 16 * suc s.rounds = omega (arith, due, s.few, s.whole) in
          record {
            keeps = f.keeps;
            on = f.on;
            settled = f.settled;
            counted = same ∙ s.counted ∙ ap length (sym f.same);
            rounds = suc s.rounds;
            whole = f.front ∙ sym s.counted ∙ all;
            few = omega (arith, same, f.front, s.counted);
            safe =
                subst (λ history. IsSafe told (length opened) next.front (batches_in history) base.start
                (past next.vault))
                (sym f.same)
                (subst (λ n. IsSafe told (length opened) n Batches base.start (past next.vault))
                (as_many ∙ s.counted ∙ sym f.front) safe_flushed);
            lines = subst (Appends base.written written2)
                (sym (ap flush_lines (counts_more (length opened) s.rounds)
                ∙ lines_more (round_counts (length opened) s.rounds) (length opened + 16 * suc s.rounds)
                ∙ ap (λ n. flush_lines (round_counts (length opened) s.rounds) ++ flush_line n) (sym all)))
                lines_flushed;
            stays = omega (arith, s.stays, f.stays);
            risen = omega (arith, s.risen, f.risen);
          }

    -- ---- stops

    module _ (arrival : Arrival) (source errors : Change) where
      loaded_of : (stop : model.Stop) → StopsHeld arrival opened source errors seen stop → HasLoaded arrival source
      loaded_of stop h = record {
        groups = h.groups;
        begins = h.behind.begins;
        light = h.behind.light;
        few = h.behind.few;
      }

      -- how many batches the groups made
      made_is : (made : List Batch) → IsHeld opened seen made → count ≡ length opened + length made
      made_is made held = sym as_many ∙ ap length held.entered ∙ length-append opened made

      lines_so_far : (made : List Batch) → IsHeld opened seen made → count < store.front + 16
          → Took (output_since base written failed) (flush_text_so_far (length opened) (length made))
      lines_so_far made held room =
          subst (Appends base.written written)
          (sym (so_far_is (length opened) (length made) s.rounds
          (omega (arith, made_is made held, s.whole, few_held, as_many))
          (omega (arith, made_is made held, s.whole, room)))) s.lines

      safe_held : (at : Past) (made : List Batch) → IsHeld opened seen made
          → IsSafe told (length opened) store.front Batches base.start at
          → IsSafe told (length opened) store.front (opened ++ made) base.start at
      safe_held at made held safe =
          subst (λ bs. IsSafe told (length opened) store.front bs base.start at) held.entered safe

      reads : (stop : model.Stop) → StopsHeld arrival opened source errors seen stop → count < store.front + 16
          → StopsReading arrival (length opened) source (output_since base written failed) (Took errors) stop
      unfolding loaded_of
      reads stop h room = record {
        loaded = loaded_of stop h;
        cause = h.behind.cause;
        said = h.named;
        flushed = lines_so_far (batches_of h.groups) h.held room;
      }

      safely_held : (stop : model.Stop) → StopsHeld arrival opened source errors seen stop
          → LoadsSafely told arrival opened source (output_since base written failed) base.start (past store.vault)
      safely_held stop h = record {
        groups = h.groups;
        begins = h.behind.begins;
        light = h.behind.light;
        reached = store.front;
        from = from;
        safe = safe_held (past store.vault) (batches_of h.groups) h.held s.safe;
        counts = round_counts (length opened) s.rounds;
        within = counts_within (length opened) s.rounds store.front (omega (arith, s.whole));
        lines = inl s.lines;
      }

      -- The run stopped at a group before it was loaded, or while its refused lines were named.
      pub stopped_holding : (new : Seen) (interrupt : Interrupt)
          → StopsHolding arrival opened source errors seen new interrupt → count < store.front + 16
          → HasStopped told past faults arrival opened source errors base store written failed (Interrupted interrupt)
      stopped_holding new Unreadable h room = record {
        stops = reads model.unreadable h room;
        safely = safely_held model.unreadable h;
        risen = s.risen;
      }
      stopped_holding new (NoAnswer overflow) h room = absurd h
      stopped_holding new (Beyond limit) h room = record {
        stops = (
          λ is. let full : IsFull seen = h.1 is in omega (arith, full, room, s.counted, s.settled),
          reads (model.beyond (limit_of limit)) h.0 room,
        );
        safely = safely_held (model.beyond (limit_of limit)) h.0;
        risen = s.risen;
      }
      stopped_holding new NoMemory h room = record {
        stops = inl (reads model.no_memory h room);
        safely = safely_held model.no_memory h;
        risen = s.risen;
      }
      stopped_holding new Unwritable h room =
          let groups = h.fault.groups in
          let group = h.fault.group in
          let more = batches_of_rows (rows_read group) in
          let all : opened ++ batches_of (groups ++ group ∷ []) ≡ Batches ++ more =
          ap (λ bs. opened ++ bs) (batches-more groups group)
          ∙ sym (append_assoc opened (batches_of groups) more)
          ∙ ap (λ bs. bs ++ more) (sym h.before.entered) in
          record {
            stops = inl (record {
              fault = h.fault;
              flushed = lines_so_far (batches_of groups) h.before room;
            });
            safely = record {
              groups = groups ++ group ∷ [];
              begins = h.fault.begins;
              light = h.fault.light;
              reached = store.front;
              from = from;
              safe = subst (λ bs. IsSafe told (length opened) store.front bs base.start (past store.vault)) (sym all)
                  (safe_more told (length opened) store.front Batches more base.start (past store.vault) s.safe);
              counts = round_counts (length opened) s.rounds;
              within = counts_within (length opened) s.rounds store.front (omega (arith, s.whole));
              lines = inl s.lines;
            };
            risen = s.risen;
          }

      -- There is no number for another batch.
      pub stopped_last : StopsHeld arrival opened source errors seen model.no_memory → count < store.front + 16
          → last_number ≤ length seen.history
          → HasStopped told past faults arrival opened source errors base store written failed Spent
      unfolding loaded_of reads
      stopped_last h room last = record {
        stops = inl (
          reads model.no_memory h room,
          omega (
            arith,
            last,
            s.counted,
            made_is (batches_of h.groups) h.held,
            length-append opened (batches_of h.groups),
          ),
        );
        safely = safely_held model.no_memory h;
        risen = s.risen;
      }

      -- The run stopped while all batches were written to the vault, or the line that says so.
      module _ (h : StopsHeld arrival opened source errors seen model.no_memory) (next : StoreState V)
          (written2 : Option (List ℕ)) (failed2 : ℕ) (stop : LoadStop)
          (f : StopsFlushing told past faults store next Batches (change written written2 failed failed2) stop) where
        abbrev Made : List Batch
        Made = batches_of h.groups

        abbrev Before : List ℕ
        Before = flush_lines (round_counts (length opened) s.rounds)

        before_is : flush_text_so_far (length opened) (length Made - 1) ≡ Before
        before_is =
            let is = made_is Made h.held in
            so_far_is (length opened) (length Made - 1) s.rounds
            (omega (arith, is, s.whole, f.some, as_many)) (omega (arith, is, s.whole, f.some, as_many, s.few))

        line_is : flush_line (length Batches) ≡ flush_line (length opened + length Made)
        line_is = ap flush_line (as_many ∙ made_is Made h.held)

        flushes : (Flushes : List ℕ → List ℕ → Type 0) → Flushes Before (flush_line (length opened + length Made))
            → StopsFlush arrival (length opened) source (Took errors) Flushes
        unfolding loaded_of
        flushes Flushes took = record {
          loaded = loaded_of model.no_memory h;
          said = h.named;
          flushed = subst (λ lines. Flushes lines (flush_line (length opened + length Made))) (sym before_is) took;
        }

        untold : written2 ≡ written → Took (output_since base written2 failed2) Before
        untold same = subst (λ w. Appends base.written w Before) (sym same) s.lines

        took_before : written2 ≡ written
            → StopsFlush arrival (length opened) source (Took errors) (TookBefore (output_since base written2 failed2))
        took_before same = flushes (TookBefore (output_since base written2 failed2)) (untold same)

        cut_line : (text : List ℕ) → text ≡ flush_line (length opened + length Made)
            → IsCut (change written written2 failed failed2) [] text
            → IsCut (output_since base written2 failed2) Before (flush_line (length opened + length Made))
        cut_line text same cut = subst (IsCut (output_since base written2 failed2) Before) same (record {
          len = cut.len;
          proper = cut.proper;
          took = Appends-trans base.written written written2 _ _ s.lines cut.took;
          failed = Rose-earlier base.failed failed failed2 s.stays cut.failed;
        })

        spent_store : next ≡ store → (files : List ℕ) (parts : List DayRows)
            → IsMerge store (drop store.front Batches) files parts → stores.IsSpent files parts store
            → (told → EachImage (FindsParts store.front store.parts) (past store.vault))
            → IsSpentStore told (opened ++ Made) (past next.vault)
        spent_store same files parts merge spent finds =
            let m : IsMerge store (drop store.front (opened ++ Made)) files parts =
            subst (λ bs. IsMerge store (drop store.front bs) files parts) h.held.entered merge in
            let holds : HoldsFront store (opened ++ Made) =
            subst (HoldsFront store) h.held.entered s.keeps.holds in
            record {
              store = forget store;
              files = files;
              parts = parts;
              holds = record { within = holds.within; are = holds.are };
              merge = record { listed = m.listed; days = m.days; joins = m.joins };
              spent = spent;
              finds = λ tells. subst (λ (st : StoreState V). EachImage (FindsParts store.front store.parts)
                  (past st.vault))
                  (sym same) (finds tells);
            }

        why_stopped : (why : LoadStop) → FailsFlush told past faults store next Batches
            (change written written2 failed failed2) why
            → StopsStored told arrival opened source (output_since base written2 failed2) errors
            (vault_since past faults base next.vault) why
        unfolding flushes loaded_of took_before
        why_stopped (Interrupted Unreadable) why = absurd why
        why_stopped (Interrupted Unwritable) why =
            inr (flushes (IsCut (output_since base written2 failed2))
            (cut_line (flush_line (length Batches)) line_is why))
        why_stopped (Interrupted (Beyond limit)) why = absurd why
        why_stopped (Interrupted (NoAnswer overflow)) why = absurd why
        why_stopped (Interrupted NoMemory) why = inr (took_before why)
        why_stopped Spent (same, stays, files, parts, merge, spent, finds) =
            inr (took_before same, spent_store stays files parts merge spent finds)
        why_stopped VaultFault (same, rose) =
            (Rose-earlier base.faults (faults store.vault) (faults next.vault) s.risen rose, took_before same)

        lines_left : (why : LoadStop) → FailsFlush told past faults store next Batches
            (change written written2 failed failed2) why
            → HasLines (output_since base written2 failed2) (round_counts (length opened) s.rounds)
        lines_left (Interrupted Unreadable) why = absurd why
        lines_left (Interrupted Unwritable) why =
            inr (length opened + length Made, cut_line (flush_line (length Batches)) line_is why)
        lines_left (Interrupted (Beyond limit)) why = absurd why
        lines_left (Interrupted (NoAnswer overflow)) why = absurd why
        lines_left (Interrupted NoMemory) why = inl (untold why)
        lines_left Spent why = inl (untold why.0)
        lines_left VaultFault why = inl (untold why.0)

        pub stopped_flushing : HasStopped told past faults arrival opened source errors base next written2 failed2 stop
        stopped_flushing = record {
          stops = why_stopped stop f.why;
          safely = record {
            groups = h.groups;
            begins = h.behind.begins;
            light = h.behind.light;
            reached = store.front;
            from = from;
            safe = safe_held (past next.vault) Made h.held
                (safe_round told (length opened) store.front Batches base.start (past store.vault) (past next.vault)
                s.safe from few_held f.moments);
            counts = round_counts (length opened) s.rounds;
            within = counts_within (length opened) s.rounds store.front (omega (arith, s.whole));
            lines = lines_left stop f.why;
          };
          risen = omega (arith, s.risen, f.risen);
        }

      -- ---- all was loaded

      module _ (l : IsLoaded arrival opened source errors seen) where
        -- all groups, as where the run stops
        pub held_all_groups : StopsHeld arrival opened source errors seen model.no_memory
        held_all_groups = record {
          groups = l.groups;
          behind = record {
            begins = l.begins;
            light = l.light;
            few = subst (AreFew 8) (sym l.all) nothing_few;
            cause = tt;
          };
          held = l.holding;
          named = l.named;
        }

        loads_all : (output : Change) → Took output (flush_text (length opened) (length (batches_of l.groups)))
            → LoadsAll arrival (length opened) source output (Took errors)
        loads_all output took = record {
          loaded = record {
            groups = l.groups;
            begins = l.begins;
            light = l.light;
            few = subst (AreFew 8) (sym l.all) nothing_few;
          };
          all = l.all;
          spent = l.spent;
          said = l.named;
          flushed = took;
        }

        safely_all : (output : Change) (reached : ℕ) (at : Past) (counts : List ℕ) → length opened ≤ reached
            → IsSafe told (length opened) reached Batches base.start at
            → AllByRecursion (λ count. count ≤ reached) counts → HasLines output counts
            → LoadsSafely told arrival opened source output base.start at
        safely_all output reached at counts more safe within lines = record {
          groups = l.groups;
          begins = l.begins;
          light = l.light;
          reached = reached;
          from = more;
          safe = subst (λ bs. IsSafe told (length opened) reached bs base.start at) l.holding.entered safe;
          counts = counts;
          within = within;
          lines = lines;
        }

        -- all are settled
        pub all_settled : count ≡ store.front
            → LoadsAll arrival (length opened) source (output_since base written failed) (Took errors)
            × LoadsSafely told arrival opened source (output_since base written failed) base.start (past store.vault)
        all_settled settled = (
          loads_all (output_since base written failed)
              (subst (Appends base.written written)
              (sym (text_whole (length opened) (length (batches_of l.groups)) s.rounds
              (omega (arith, made_is (batches_of l.groups) l.holding, settled, s.whole)))) s.lines),
          safely_all (output_since base written failed) store.front (past store.vault)
              (round_counts (length opened) s.rounds) from s.safe
              (counts_within (length opened) s.rounds store.front (omega (arith, s.whole))) (inl s.lines),
        )

        -- a last round was run
        pub all_flushed : (next : StoreState V) (after : Seen) (written2 : Option (List ℕ)) (failed2 : ℕ)
            → IsFlushed told past faults store next seen after (change written written2 failed failed2)
            → store.front < count
            → LoadsAll arrival (length opened) source (output_since base written2 failed2) (Took errors)
            × LoadsSafely told arrival opened source (output_since base written2 failed2) base.start (past next.vault)
        all_flushed next after written2 failed2 f some =
            let rounds = round_counts (length opened) s.rounds in
            let is = made_is (batches_of l.groups) l.holding in
            let took = lines_flushed next after written2 failed2 f in (
              loads_all (output_since base written2 failed2)
                  (subst (Appends base.written written2)
                  (ap (λ n. flush_lines rounds ++ flush_line n) is
                  ∙ sym (text_is (length opened) (length (batches_of l.groups)) s.rounds
                  (omega (arith, is, some, s.whole)) (omega (arith, is, s.few, s.whole)))) took),
              safely_all (output_since base written2 failed2) (length Batches) (past next.vault)
                  (rounds ++ count ∷ []) (omega (arith, from, few_held))
                  (safe_flushed next after written2 failed2 f)
                  (all_more (λ n. n ≤ length Batches) rounds count
                  (counts_within (length opened) s.rounds (length Batches) (omega (arith, s.whole, few_held)))
                  (omega (arith, as_many)))
                  (inl (subst (Appends base.written written2) (sym (lines_more rounds count)) took)),
            )

-- ---- groups

-- The run goes on at a desk of the same batches.
pub under_kept : (run : Run) (bodies : List (List ℕ)) (err : Option (List ℕ)) (f : ℕ) (seen after : Seen) (lines : ℕ)
    → IsUnderWay run bodies err f seen lines → after.history ≡ seen.history
    → length after.history ≤ after.settled + held_limit → IsUnderWay run bodies err f after lines
under_kept run bodies err f seen after lines u same few = record {
  taken = u.taken;
  groups = u.groups;
  behind = u.behind;
  gave = u.gave;
  placed = u.placed;
  within = u.within;
  are = u.are;
  few = u.few;
  tail_few = u.tail_few;
  given = u.given;
  grouped = u.grouped;
  stage = u.stage;
  spent = u.spent;
  few_lines = u.few_lines;
  light = u.light;
  held = record { entered = ap batches_in same ∙ u.held.entered; few = few };
  named = u.named;
  stays = u.stays;
}

module _ {V : Type 0} (told : Type 0) (past : V → Past) (faults : V → ℕ) (run : Run) (base : Base)
    (store : StoreState V)
    (count : ℕ) (written : Option (List ℕ)) (failed : ℕ) where
  -- the load stops at a group
  pub stops_insert : (body : List ℕ) (bodies : List (List ℕ)) (err0 err1 : Option (List ℕ)) (f0 f1 : ℕ) (old new : Seen)
      (lines : ℕ) → IsUnderWay run (body ∷ bodies) err0 f0 old lines
      → IsStoring told past faults run.opened base store old count written failed → count < store.front + 16
      → (stop : LoadStop) → StopsInsert run.arrival body lines old new (change err0 err1 f0 f1) stop
      → HasStopped told past faults run.arrival run.opened run.source (errors_of run err1 f1) base store written
      failed stop
  stops_insert body bodies err0 err1 f0 f1 old new lines u s room (Interrupted interrupt) h =
      stopped_holding told past faults run.opened base store old count written failed s run.arrival run.source
      (errors_of run err1 f1) new interrupt
      (stops_at_group run body bodies err0 err1 f0 f1 old new lines u
      (λ full. absurd (let is : IsFull old = full in omega (arith, is, room, s.counted, s.settled))) interrupt h) room
  stops_insert body bodies err0 err1 f0 f1 old new lines u s room Spent h =
      stopped_last told past faults run.opened base store old count written failed s run.arrival run.source
      (errors_of run err1 f1) (stops_now run (body ∷ bodies) err0 f0 old lines u err1 f1 h.0) room h.1
  stops_insert body bodies err0 err1 f0 f1 old new lines u s room VaultFault h = absurd h

  -- the load stops after a group
  pub stops_flush : (bodies : List (List ℕ)) (err : Option (List ℕ)) (f : ℕ) (seen : Seen) (lines : ℕ)
      → IsUnderWay run bodies err f seen lines
      → IsStoring told past faults run.opened base store seen count written failed
      → (next : StoreState V) (written2 : Option (List ℕ)) (failed2 : ℕ) (stop : LoadStop)
      → StopsFlushing told past faults store next (batches_in seen.history) (change written written2 failed failed2)
      stop
      → HasStopped told past faults run.arrival run.opened run.source (errors_of run err f) base next written2 failed2
      stop
  stops_flush bodies err f seen lines u s next written2 failed2 stop h =
      stopped_flushing told past faults run.opened base store seen count written failed s run.arrival run.source
      (errors_of run err f) (stops_now run bodies err f seen lines u err f refl) next written2 failed2 stop h

  -- a group was inserted, and the store is as before
  pub inserted : (arrival : Arrival) (body : List ℕ) (old new : Seen) (errors : Change) (before : ℕ)
      → IsStoring told past faults run.opened base store old count written failed → count < store.front + 16
      → (group : List Outcome) × TakesGroup arrival body group old new × Took errors (refusals_from (before + 1) group)
      → (next : ℕ) → next ≡ length new.history → (kept : StoreState V) → kept ≡ store
      → IsStoring told past faults run.opened base kept new next written failed
  inserted arrival body old new errors before s room (group, takes, named) next counted kept same =
      subst (λ st. IsStoring told past faults run.opened base st new next written failed) (sym same)
      (storing_inserted told past faults run.opened base store old count written failed s arrival body group new next
      takes room counted)

  -- nothing was due, or a round was run
  pub kept_on : {O : Type 0} (taken : O → Option (List ℕ)) (risen : O → ℕ) (out out2 : O) (seen after : Seen)
      (next : StoreState V) (next_count : ℕ)
      → IsStoring told past faults run.opened base store seen count (taken out) (risen out)
      → ((count < store.front + 16) × (next ≡ store) × (after ≡ seen) × (out2 ≡ out))
      ⊎ ((store.front + 16 ≤ count) × IsFlushed told past faults store next seen after
      (change (taken out) (taken out2) (risen out) (risen out2)))
      → next_count ≡ count
      → IsStoring told past faults run.opened base next after next_count (taken out2) (risen out2)
      × (next_count < next.front + 16) × (after.history ≡ seen.history)
  kept_on {O} taken risen out out2 seen after next next_count s (inl (idle, stored, looked, unwritten)) same =
      let Is : StoreState V → Seen → ℕ → O → Type 0 = λ st se n o. IsStoring told past faults run.opened base st se n
      (taken o) (risen o) in (
        subst (λ st. Is st after next_count out2) (sym stored)
            (subst (λ se. Is store se next_count out2) (sym looked)
            (subst (λ n. Is store seen n out2) (sym same) (subst (λ o. Is store seen count o) (sym unwritten) s))),
        omega (arith, idle, same, ap (λ (st : StoreState V). st.front) stored),
        ap (λ (se : Seen). se.history) looked,
      )
  kept_on {O} taken risen out out2 seen after next next_count s (inr (due, flushed)) same =
      let on = storing_flushed told past faults run.opened base store seen count (taken out) (risen out) s next after
      (taken out2) (risen out2) flushed due next_count same in
      (on, omega (arith, same, s.few, flushed.front, s.counted, due), flushed.same)

module _ {V O : Type 0} (told : Type 0) (past : V → Past) (faults : V → ℕ) (run : Run) (base : Base)
    (taken : O → Option (List ℕ)) (risen : O → ℕ) where
  -- a group was stored
  pub on_group : (body : List ℕ) (bodies : List (List ℕ)) (err0 err1 : Option (List ℕ)) (f0 f1 lines : ℕ)
      (old new after : Seen) (store kept next : StoreState V) (count count1 count2 : ℕ) (out out2 : O)
      → IsUnderWay run (body ∷ bodies) err0 f0 old lines
      → IsStoring told past faults run.opened base store old count (taken out) (risen out) → count < store.front + 16
      → f0 ≤ f1
      → (group : List Outcome) × TakesGroup run.arrival body group old new
      × Took (change err0 err1 f0 f1) (refusals_from (lines + 1) group)
      → count1 ≡ length new.history → kept ≡ store
      → ((count1 < kept.front + 16) × (next ≡ kept) × (after ≡ new) × (out2 ≡ out))
      ⊎ ((kept.front + 16 ≤ count1) × IsFlushed told past faults kept next new after
      (change (taken out) (taken out2) (risen out) (risen out2)))
      → count2 ≡ count1
      → IsUnderWay run bodies err1 f1 after (lines + 1000)
      × IsStoring told past faults run.opened base next after count2 (taken out2) (risen out2)
      × (count2 < next.front + 16)
  on_group body bodies err0 err1 f0 f1 lines old new after store kept next count count1 count2 out out2 under storing
      room stays takes counted same flushes as_many =
      let stored = inserted told past faults run base store count (taken out) (risen out) run.arrival body old new
      (change err0 err1 f0 f1) lines storing room takes count1 counted kept same in
      let more = loading_more run body bodies err0 err1 f0 f1 old new lines under stays takes in
      let on = kept_on told past faults run base kept count1 (taken out) (risen out) taken risen out out2 new after next
      count2 stored flushes as_many in (
        under_kept run bodies err1 f1 new after (lines + 1000) more on.2
            (omega (arith, on.0.counted, on.0.few, on.0.settled)),
        on.0,
        on.1,
      )

-- No batch was inserted yet.
pub held_none : {V : Type 0} (store : StoreState V) (seen : Seen) → IsOpenDesk store seen
    → IsHeld (batches_in seen.history) seen []
held_none store seen opened = record {
  entered = sym (append-nil (batches_in seen.history));
  few = omega (arith, opened.settled, opened.whole.whole, length-map seen.history entry_rows);
}

-- the load stops before anything is read
pub stopped_unread : {V : Type 0} (told : Type 0) (past : V → Past) (faults : V → ℕ) (arrival : Arrival)
    (left : Option (List ℕ)) (s0 s1 : ℕ) (err : Option (List ℕ)) (f0 f1 : ℕ) (base : Base) (store : StoreState V)
    (seen : Seen) (count : ℕ) (written : Option (List ℕ)) (failed : ℕ) → IsOpenDesk store seen
    → IsStoring told past faults (batches_in seen.history) base store seen count written failed
    → count < store.front + 16
    → HasStopped told past faults arrival (batches_in seen.history) (change left left s0 s1) (change err err f0 f1) base
    store written failed (Interrupted NoMemory)
stopped_unread told past faults arrival left s0 s1 err f0 f1 base store seen count written failed opened s room =
    stopped_holding told past faults (batches_in seen.history) base store seen count written failed s arrival
    (change left left s0 s1) (change err err f0 f1) seen NoMemory
    (stops_unread arrival (batches_in seen.history) left s0 s1 err f0 f1 seen (held_none store seen opened)) room

-- how a load ends whose groups are all loaded
pub record EndsRest {V : Type 0} (told : Type 0) (past : V → Past) (faults : V → ℕ) (arrival : Arrival)
    (opened : List Batch) (source errors : Change) (base : Base) (store : StoreState V) (written : Option (List ℕ))
    (failed : ℕ) (result : Result (Unit {0}) LoadStop) : Type 0 where
  pub ok : OnOk result (LoadsAll arrival (length opened) source (output_since base written failed) (Took errors))
  pub err : IfErr result (StopsStored told arrival opened source (output_since base written failed) errors
      (vault_since past faults base store.vault))
  pub safely : LoadsSafely told arrival opened source (output_since base written failed) base.start (past store.vault)
  pub risen : base.faults ≤ faults store.vault

module _ {V O : Type 0} (told : Type 0) (past : V → Past) (faults : V → ℕ) (arrival : Arrival) (opened : List Batch)
    (source errors : Change) (base : Base) (store : StoreState V) (seen : Seen) (count : ℕ)
    (taken : O → Option (List ℕ)) (risen : O → ℕ) (out out2 : O)
    (s : IsStoring told past faults opened base store seen count (taken out) (risen out))
    (l : IsLoaded arrival opened source errors seen) (next : StoreState V) (after : Seen) where
  -- the last round is run, or is not needed
  pub ends_rest : (result : Result (Unit {0}) LoadStop)
      → OnOk result (((count ≡ store.front) × (next ≡ store) × (out2 ≡ out))
      ⊎ ((store.front < count) × IsFlushed told past faults store next seen after
      (change (taken out) (taken out2) (risen out) (risen out2))))
      → IfErr result (StopsFlushing told past faults store next (batches_in seen.history)
      (change (taken out) (taken out2) (risen out) (risen out2)))
      → EndsRest told past faults arrival opened source errors base next (taken out2) (risen out2) result
  ends_rest (Ok done) (inl (settled, stored, unwritten)) failed =
      let all = all_settled told past faults opened base store seen count (taken out) (risen out) s arrival source
      errors
      l settled in
      let Ends : StoreState V → O → Type 0 = λ st o.
      EndsRest told past faults arrival opened source errors base st (taken o) (risen o) (Ok done) in
      subst (λ st. Ends st out2) (sym stored)
      (subst (λ o. Ends store o) (sym unwritten)
      (record { ok = all.0; err = tt; safely = all.1; risen = s.risen }))
  ends_rest (Ok done) (inr (some, flushed)) failed =
      let all = all_flushed told past faults opened base store seen count (taken out) (risen out) s arrival source
      errors
      l next after (taken out2) (risen out2) flushed some in
      record { ok = all.0; err = tt; safely = all.1; risen = omega (arith, s.risen, flushed.risen) }
  ends_rest (Err stop) kept failed =
      let stopped = stopped_flushing told past faults opened base store seen count (taken out) (risen out) s arrival
      source errors (held_all_groups told past faults opened base store seen count (taken out) (risen out) s arrival
      source errors l) next (taken out2) (risen out2) stop failed in
      record { ok = tt; err = stopped.stops; safely = stopped.safely; risen = stopped.risen }

-- ---- a flush

-- why the line was not written, as why the flush failed
pub line_fails : {V : Type 0} (told : Type 0) (past : V → Past) (faults : V → ℕ) (old new : StoreState V)
    (batches : List Batch) (output : Change) (count : ℕ) → count ≡ length batches → (stop : LoadStop)
    → StopsLine count output stop → FailsFlush told past faults old new batches output stop
line_fails told past faults old new batches output count same (Interrupted Unreadable) h = absurd h
line_fails told past faults old new batches output count same (Interrupted Unwritable) h =
    subst (λ n. IsCut output [] (flush_line n)) same h
line_fails told past faults old new batches output count same (Interrupted (Beyond limit)) h = absurd h
line_fails told past faults old new batches output count same (Interrupted (NoAnswer overflow)) h = absurd h
line_fails told past faults old new batches output count same (Interrupted NoMemory) h = h
line_fails told past faults old new batches output count same Spent h = absurd h
line_fails told past faults old new batches output count same VaultFault h = absurd h

pub none_left : {X : Type 0} (xs : List X) → length xs ≡ 0 → xs ≡ []
none_left [] none = refl
none_left (x ∷ xs) none = absurd (omega (arith, none))
