-- What a keeper's store holds, and what the images of its vault find.
use Rattle.std.proofs.Common.{◌≡◌, inl, inr, ℕ, zero, suc, ◌+◌, ◌-◌, ◌<◌, ◌≤◌, List, [], ◌∷◌, ◌++◌, length, map, take}
use Rattle.std.proofs.Common.{drop, refl}
use Rattle.std.proofs.Common.{true, false, sym, ap, subst, ◌∙◌, arith, append_assoc, flat_map, length-append}
use Rattle.std.specs.Prelude.{◌≢◌, ◌⊎◌, ◌==◌, if◌then◌else◌, Bool, IfErr, IfOk, OnErr, OnOk, Option, None, Some}
use Rattle.std.specs.Prelude.{Result, Ok, Err}
use Rattle.std.specs.Arc.{arc_value}
use Rattle.std.specs.List.{filter, slice_get}
use Rattle.std.specs.List.Sorted.{IsPermutation}
use Rattle.std.specs.declared.sync.Arc.{Arc}
use Rattle.std.proofs.lemmas.List.{append-nil, drop-map, length-map, length-take-le, map-append, take-append-le}
use Rattle.std.proofs.lemmas.List.{take-map, take_all}
use Rattle.std.proofs.lemmas.List.Folds.{flat_map-map}
use Rattle.std.proofs.lemmas.List.Sorted.{IsPermutation-sym, IsPermutation-trans}
use Rattle.std.proofs.lemmas.Option.{none-some}
use native.Mathlib.Decide.{ℕ_discrete}
use Rattle.std.proofs.lemmas.Grind.{flat_map-append}
use Rattle.log_model.specs.Batches.{AreOf, AreRising, batch_rows}
use Rattle.log_model.specs.Core.{Contents, Stands, count_of, parts_of, swapped}
use Rattle.log_model.specs.History.{Entry, History, Numbered, batches_in, entry_rows, numbered}
use Rattle.log_model.specs.Row.{Batch}
use Rattle.log_model.proofs.Joining.{numbered_batches, numbered_rising, parts_are_of, stands_swapped}
use Rattle.day_model.specs.Days.{AreOfTheirDays, DayRows}
use Rattle.block_format.specs.Rows.{are_numbered_apart}
use Rattle.part_model.specs.Part.{rows_weight}
use Rattle.part_model.proofs.OrderLaws.{apart-same}
use Rattle.vl_io.specs.Faults.{Rose}
use Rattle.vl_vault.specs.Disk.{Past, Image}
use Rattle.vl_vault.specs.Moments.{Always, now, EachImage}
use Rattle.vl_vault.proofs.Runs.{weaken}
use Rattle.turn_lock.specs.declared.view.Entry.{Entry as Made}
use Rattle.turn_lock.specs.Entries.{Continues}
use Rattle.turn_lock.specs.Passes.{IsPassOf, LockId, PassState}
use Rattle.turn_lock.specs.Views.{end_of}
use Rattle.turn_lock.proofs.Laws.{continues_trans}
use Rattle.log_core.specs.Entries.{entry_of, seen_history}
use Rattle.log_core.specs.Shared.{shared_parts}
use Rattle.log_core.specs.declared.entries.EntryRows.{EntryRows}
use Rattle.part_store.specs.State.{ArePartsAfter, HasSameList, IsReplaced, IsSpent, Listed, StoreState, added}
use Rattle.part_store.specs.State.{is_day, kept}
use Rattle.part_store.specs.Finds.{Finds, FindsOldOrNew, FindsParts}
use Rattle.part_store.specs.declared.fault.StoreFault.{StoreFault}
use Rattle.part_store.specs.declared.fault.StoreFault.TheVariants as stores
use Rattle.merge_plan.specs.Joining.{joined_last}
use Rattle.merge_plan.specs.Planned.{AreListed, JoinsDays, KeepsRows, day_rows, is_of, listed_weights, rows_of_listed}
use Rattle.merge_plan.specs.Planned.{rows_of_parts, weights_of_day}
use Rattle.log_desk.specs.Calls.{Looked}
use Rattle.log_desk.specs.Faults.{keep_fault_of}
use Rattle.log_desk.specs.Seen.{Caller, caller_of}
use Rattle.log_desk.specs.Keeping.{EndsRound, FindsFirst, GoesOn, HasKept, HoldsFront, IsMerge, IsMerged, IsRound}
use Rattle.log_desk.specs.Keeping.{MayKeep}
use Rattle.log_desk.specs.Keeping.{batches_seen, later_batches, rows_listed, rows_of_each}
use Rattle.log_desk.specs.Writing.{AreWritten, IsPlanOf, IsWrittenOut}
use Rattle.log_desk.specs.declared.fault.KeepFault.{KeepFault}
use Rattle.log_desk.specs.declared.fault.KeepFault.TheVariants as faults
use Rattle.log_desk.proofs.RowLaws.{day_weights, permuted, rising_apart}
use Rattle.log_desk.proofs.TurnLaws.{rows}

-- ---- what was seen

pub length-batches : (seen : List (Made EntryRows)) → length (batches_seen seen) ≡ length seen
length-batches seen = length-map (seen_history seen) entry_rows ∙ length-map seen entry_of

pub batches_on : (passes : ℕ) (ns : List ℕ) (a b : List (Made EntryRows)) (on : Continues passes ns a b)
    → batches_seen b ≡ batches_seen a ++ batches_seen on.rest
batches_on passes ns a b on =
    ap batches_seen on.begins ∙ ap batches_in (map-append entry_of a on.rest)
    ∙ map-append entry_rows (seen_history a) (seen_history on.rest)

longer_seen : (passes : ℕ) (ns : List ℕ) (a b : List (Made EntryRows)) → Continues passes ns a b → length a ≤ length b
longer_seen passes ns a b on = omega (arith, ap length on.begins, length-append a on.rest)

pub take_on : (f : ℕ) (bs cs later : List Batch) → cs ≡ bs ++ later → f ≤ length bs → take f cs ≡ take f bs
take_on f bs cs later is within = ap (take f) is ∙ rw take-append-le refl

holds_on : {V : Type 0} (s : StoreState V) (bs cs later : List Batch) → cs ≡ bs ++ later → HoldsFront s bs
    → HoldsFront s cs
holds_on s bs cs later is holds =
    let within = holds.within in
    record {
      within = omega (arith, ap length is, length-append bs later);
      are = subst (AreOf (λ part. part.rows) s.parts) (sym (take_on s.front bs cs later is within)) holds.are;
    }

pub holds_seen : {V : Type 0} (s : StoreState V) (passes : ℕ) (ns : List ℕ) (a b : List (Made EntryRows))
    → Continues passes ns a b → HoldsFront s (batches_seen a) → HoldsFront s (batches_seen b)
holds_seen s passes ns a b on =
    holds_on s (batches_seen a) (batches_seen b) (batches_seen on.rest) (batches_on passes ns a b on)

-- ---- how a pass goes on

pub goes_self : (l : LockId) (p : PassState EntryRows) → GoesOn l p p
goes_self l p = record {
  caller = refl;
  adds = record {
    rest = [];
    begins = sym (append-nil p.seen);
    strangers = record { nobody = refl; others = λ n some. absurd (omega (arith, some)) };
  };
  settled = omega arith;
  more_turns = [];
  turns = sym (append-nil p.turns);
}

pub goes_trans : (l : LockId) (a b c : PassState EntryRows) → GoesOn l a b → GoesOn l b c → GoesOn l a c
goes_trans l a b c first second =
    let rises = first.settled in
    let more = second.settled in
    record {
      caller = second.caller ∙ first.caller;
      adds = continues_trans l.passes a.numbers a.seen b.seen c.seen first.adds
          (subst (λ ns. Continues l.passes ns b.seen c.seen) (ap (λ (p : Caller). p.numbers) first.caller) second.adds);
      settled = omega (arith, rises, more);
      more_turns = first.more_turns ++ second.more_turns;
      turns = second.turns ∙ ap (λ t. t ++ second.more_turns) first.turns
          ∙ append_assoc a.turns first.more_turns second.more_turns;
    }

pub goes_looked : (l : LockId) (p r : PassState EntryRows) → Looked l p r → GoesOn l p r
goes_looked l p r looked = record {
  caller = looked.took.caller;
  adds = looked.adds;
  settled = looked.took.mark.rises;
  more_turns = end_of r.seen r.mark ∷ [];
  turns = looked.took.turn;
}

-- A round may begin then too, where the mark did not pass the front.
pub keeps_on : {V : Type 0} (l : LockId) (s : StoreState V) (p r : PassState EntryRows) → MayKeep l s p → GoesOn l p r
    → IsPassOf l r → r.mark ≤ s.front → MayKeep l s r
keeps_on l s p r may on is mark = record {
  of_desk = is;
  may_settle = subst (λ n. 0 < n) (sym (ap (λ (c : Caller). c.may_settle) on.caller)) may.may_settle;
  holds = holds_seen s l.passes p.numbers p.seen r.seen on.adds may.holds;
  mark = mark;
}

pub keeps_looked : {V : Type 0} (l : LockId) (s : StoreState V) (p r : PassState EntryRows) → MayKeep l s p
    → Looked l p r → IsPassOf l r → MayKeep l s r
keeps_looked l s p r may looked is =
    keeps_on l s p r may (goes_looked l p r looked) is
    (subst (λ n. n ≤ s.front) (sym (looked.took.mark.stays may.may_settle)) may.mark)

-- ---- images

finds_first : (front : ℕ) (parts : List Listed) (bs : List Batch) (image : Image) → front ≤ length bs
    → AreOf (λ (part : Listed). part.rows) parts (take front bs) → FindsParts front parts image
    → Finds (take front bs) image
finds_first front parts bs image within are found =
    (parts, subst (λ n. FindsParts n parts image) (sym (length-take-le front bs within)) found, are)

-- An image finds what the store holds.
pub finds_held : {V : Type 0} (s : StoreState V) (bs : List Batch) (p : Past) → HoldsFront s bs
    → EachImage (FindsParts s.front s.parts) p → EachImage (Finds (take s.front bs)) p
finds_held s bs p holds finds image may = finds_first s.front s.parts bs image holds.within holds.are (finds image may)

first_on : (f n : ℕ) (bs cs later : List Batch) (image : Image) → cs ≡ bs ++ later → f ≤ length bs → n ≤ length bs
    → FindsFirst f n bs image → FindsFirst f n cs image
first_on f n bs cs later image is fits nits (inl old) =
    inl (subst (λ b. Finds b image) (sym (take_on f bs cs later is fits)) old)
first_on f n bs cs later image is fits nits (inr new) =
    inr (subst (λ b. Finds b image) (sym (take_on n bs cs later is nits)) new)

-- ---- writing out

rows_added : (next : ℕ) (news : List DayRows) → rows_of_listed (added next news) ≡ rows_of_parts news
rows_added next [] = refl
rows_added next (new ∷ news) = ap (λ rest. new.1 ++ rest) (rows_added (suc next) news)

vault_is_not_spent : stores.VaultFault ≡ stores.Spent → ⊥
vault_is_not_spent same = absurd cc

pub ok_is_no_err : {T E : Type 0} (x : T) (e : E) → Ok x ≡ Err e → ⊥
ok_is_no_err x e same = absurd cc

pub same_err : {E : Type 0} (a b : E) → ◌≡◌ {A = Result (Unit {0}) E} (Err a) (Err b) → a ≡ b
same_err a b same = cc

-- the new parts of a day
added_weights : (day next : ℕ) (news : List DayRows) → listed_weights day (added next news) ≡ weights_of_day day news
added_weights day next [] = refl
added_weights day next (new ∷ news) = by (new.0 == day) (added_weights day (suc next) news)
  where
    by : (t : Bool) → listed_weights day (added (suc next) news) ≡ weights_of_day day news
        → map (λ (part : Listed). rows_weight part.rows)
        (if t then record { day = new.0; file = next; rows = new.1 } ∷ filter (is_day day) (added (suc next) news)
        else filter (is_day day) (added (suc next) news))
        ≡ map (λ (part : DayRows). rows_weight part.1)
        (if t then new ∷ filter (is_of day) news else filter (is_of day) news)
    by true rest = ap (λ (l : List ℕ). rows_weight new.1 ∷ l) rest
    by false rest = rest

-- What the parts of a day weigh, where the new ones come after the kept ones.
weights_after : (files : List ℕ) (news : List DayRows) (next day : ℕ) (old new : List Listed)
    → filter (is_day day) new ≡ filter (is_day day) (kept files old) ++ filter (is_day day) (added next news)
    → listed_weights day new ≡ listed_weights day (kept files old) ++ weights_of_day day news
weights_after files news next day old new is =
    ap (map (λ (part : Listed). rows_weight part.rows)) is
    ∙ map-append (λ (part : Listed). rows_weight part.rows) (filter (is_day day) (kept files old))
    (filter (is_day day) (added next news))
    ∙ ap (λ l. listed_weights day (kept files old) ++ l) (added_weights day next news)

same_front : {E : Type 0} (f : ℕ) (r : Result (Unit {0}) E) → OnErr r (f ≡ f)
same_front f (Ok x) = tt
same_front f (Err e) = refl

module _ {V : Type 0} (history : History) (look : Contents (List Numbered)) (old : StoreState V)
    (stands : Stands rows look history) (holds : HoldsFront old (batches_in history))
    (up : look.settled ≤ old.front) where
  abbrev bs : List Batch
  bs = batches_in history

  abbrev later : List (List Numbered)
  later = drop (old.front - look.settled) look.unsettled

  counted : count_of look ≡ length bs
  counted = stands.counted ∙ sym (length-map history entry_rows)

  -- What a shelf has with the store's parts as its day parts.
  shown : Stands rows (swapped look old.front (rows_listed old.parts)) history
  shown =
      let within = holds.within in
      stands_swapped rows look old.front (rows_listed old.parts) history up
      (omega (arith, within, length-map history entry_rows))
      (subst (IsPermutation (flat_map rows (rows_listed old.parts)))
      (ap batch_rows (take-map entry_rows old.front history) ∙ sym (numbered_batches (take old.front history)))
      (subst (λ l. IsPermutation l (batch_rows (take old.front bs)))
      (sym (flat_map-map rows (λ (part : Listed). part.rows) old.parts)) holds.are)) stands

  -- The stored parts and those of the later batches have the rows of all batches.
  pub all_rows : IsPermutation (rows_of_listed old.parts ++ flat_map rows later) (batch_rows bs)
  all_rows =
      subst (λ l. IsPermutation l (batch_rows bs))
      (flat_map-append rows (rows_listed old.parts) later
      ∙ ap (λ l. l ++ flat_map rows later) (flat_map-map rows (λ (part : Listed). part.rows) old.parts))
      (parts_are_of rows (swapped look old.front (rows_listed old.parts)) history shown)

  -- The later parts have the weights of the later batches.
  pub joins_batches : (files : List ℕ) (news : List DayRows) → JoinsDays old.parts later files news
      → JoinsDays old.parts (rows_of_each old.front (drop old.front bs)) files news
  joins_batches files news joins day =
      joins day
      ∙ ap (joined_last (listed_weights day old.parts)) (day_weights day old.front later
      (drop old.front history) shown.unsettled
      ∙ ap (λ l. map rows_weight (day_rows day (rows_of_each old.front l))) (sym
      (drop-map entry_rows old.front history)))

  -- All of these rows have numbers that differ.
  pub all_apart : are_numbered_apart (rows_of_listed old.parts ++ flat_map rows later) ≡ true
  all_apart =
      apart-same (batch_rows bs) (rows_of_listed old.parts ++ flat_map rows later)
      (IsPermutation-sym (rows_of_listed old.parts ++ flat_map rows later) (batch_rows bs) all_rows)
      (rising_apart (batch_rows bs) (subst AreRising (numbered_batches history) (numbered_rising history)))

  module _ (files : List ℕ) (news : List DayRows) (plan : IsPlanOf old.parts later files news) where
    are_after : (parts : List Listed) → ArePartsAfter files news old parts → AreOf (λ
        (part : Listed). part.rows) parts bs
    are_after parts after =
        let stay = kept files old.parts in
        let come = added old.next_file news in
        IsPermutation-trans (rows_of_listed parts) (rows_of_listed (stay ++ come)) (batch_rows bs)
        (permuted (λ (part : Listed). part.rows) parts (stay ++ come) after.same)
        (subst (λ l. IsPermutation l (batch_rows bs))
        (sym (flat_map-append (λ (part : Listed). part.rows) stay come
        ∙ ap (λ l. rows_of_listed stay ++ l) (rows_added old.next_file news)))
        (IsPermutation-trans (rows_of_listed stay ++ rows_of_parts news)
        (rows_of_listed old.parts ++ flat_map rows later)
        (batch_rows bs) plan.rows all_rows))

    merge : IsMerge old (drop old.front bs) files news
    merge = record { listed = plan.listed; days = plan.days; joins = joins_batches files news plan.joins }

    module _ (count : ℕ) (whole : count ≡ length bs) where
      are_first : (parts : List Listed) → ArePartsAfter files news old parts
          → AreOf (λ (part : Listed). part.rows) parts (take count bs)
      are_first parts after =
          subst (AreOf (λ (part : Listed). part.rows) parts) (sym (take_all count bs (omega (arith, whole))))
          (are_after parts after)

      first_of : (image : Image) → FindsOldOrNew files news count old image → FindsFirst old.front (length bs) bs image
      first_of image (inl was) = inl (finds_first old.front old.parts bs image holds.within holds.are was)
      first_of image (inr found) =
          inr (subst (λ n. Finds (take n bs) image) whole (finds_first count found.0 bs image (omega (arith, whole))
          (are_first found.0 found.1) found.2))

      run_first : {p q : Past} → Always (EachImage (FindsOldOrNew files news count old)) p q
          → Always (EachImage (FindsFirst old.front (length bs) bs)) p q
      run_first run = weaken (λ p each image may. first_of image (each image may)) run

      written_ok : (told : Type 0) (past : V → Past) (risen : V → ℕ) (new : StoreState V)
          → IsReplaced files news count old new → (IsSpent files news old → ⊥)
          → (told → Always (EachImage (FindsOldOrNew files news count old)) (past old.vault) (past new.vault))
          → IsWrittenOut told past risen bs old new (Ok tt)
      written_ok told past risen new replaced room run = record {
        holds = record {
          within = omega (arith, replaced.front_is, whole);
          are = subst (λ n. AreOf (λ (part : Listed). part.rows) new.parts (take n bs)) (sym replaced.front_is)
              (are_first new.parts replaced.parts);
        };
        ok = record {
          front = replaced.front_is ∙ whole;
          on = replaced.halted;
          merged = λ more. record {
            files = files;
            parts = news;
            merge = merge;
            room = room;
            replaced = subst (λ n. IsReplaced files news n old new) (sym replaced.front_is) replaced;
            weights = λ day. weights_after files news old.next_file day old.parts new.parts (replaced.parts.by_day day)
                ∙ merge.joins day;
          };
        };
        err = tt;
        fault = tt;
        moments = λ tells. run_first (run tells);
      }

      ends : (risen : V → ℕ) (new : StoreState V) (fault : StoreFault) → old.halted ≡ None → HasSameList old new
          → ((n : ℕ) → fault ≡ stores.Halted n → old.halted ≡ Some n)
          → (fault ≡ stores.Spent → IsSpent files news old) → (IsSpent files news old → fault ≡ stores.Spent)
          → (fault ≡ stores.VaultFault → Rose (risen old.vault) (risen new.vault) × (new.halted ≡ Some
          (risen new.vault)))
          → (fault ≢ stores.VaultFault → new ≡ old)
          → EndsRound risen (drop old.front bs) old new (keep_fault_of fault)
      ends risen new (stores.Halted n) on same halted spent spends rose stays = absurd (none-some n (sym on
          ∙ halted n refl))
      ends risen new stores.Spent on same halted spent spends rose stays =
          (stays (λ e. absurd cc), files, news, merge, spent refl)
      ends risen new stores.VaultFault on same halted spent spends rose stays =
          let is = rose refl in
          (is.0, is.1, same, files, news, merge, λ room. vault_is_not_spent (spends room))
      ends risen new stores.Memory on same halted spent spends rose stays =
          let is = stays (λ e. absurd cc) in (ap (λ (s : StoreState V). s.halted) is ∙ on, inl is)

      written_err : (told : Type 0) (past : V → Past) (risen : V → ℕ) (new : StoreState V) (fault : KeepFault)
          → HasSameList old new → EndsRound risen (drop old.front bs) old new fault
          → (told → Always (EachImage (FindsOldOrNew files news count old)) (past old.vault) (past new.vault))
          → IsWrittenOut told past risen bs old new (Err fault)
      written_err told past risen new fault same ended run = record {
        holds = record {
          within = subst (λ n. n ≤ length bs) (sym same.front) holds.within;
          are = subst (λ n. AreOf (λ (part : Listed). part.rows) new.parts (take n bs)) (sym same.front)
              (subst (λ ps. AreOf (λ (part : Listed). part.rows) ps (take old.front bs)) (sym same.parts) holds.are);
        };
        ok = tt;
        err = same.front;
        fault = ended;
        moments = λ tells. run_first (run tells);
      }

  -- Nothing was written.
  written_none : (told : Type 0) (past : V → Past) (risen : V → ℕ) (r : Result (Unit {0}) KeepFault) → old.halted ≡ None
      → OnOk r (old.front ≡ length bs) → IfErr r (λ fault. fault ≡ faults.Memory)
      → (told → EachImage (FindsParts old.front old.parts) (past old.vault))
      → IsWrittenOut told past risen bs old old r
  written_none told past risen r on all memory finds = record {
    holds = holds;
    ok = by_ok r all;
    err = same_front old.front r;
    fault = by_err r memory;
    moments = λ tells. now (λ image may. inl (finds_held old bs (past old.vault) holds (finds tells) image may));
  }
    where
      by_ok : (r : Result (Unit {0}) KeepFault) → OnOk r (old.front ≡ length bs) → OnOk r (AreWritten bs old old)
      by_ok (Ok x) whole = record { front = whole; on = on; merged = λ more. absurd (omega (arith, more, whole)) }
      by_ok (Err e) whole = tt

      by_err : (r : Result (Unit {0}) KeepFault) → IfErr r (λ fault. fault ≡ faults.Memory)
          → IfErr r (EndsRound risen (drop old.front bs) old old)
      by_err (Ok x) is = tt
      by_err (Err e) is = subst (EndsRound risen (drop old.front bs) old old) (sym is) (on, inl refl)

-- ---- a round

module _ {V : Type 0} (told : Type 0) (past : V → Past) (lock : LockId) (old : StoreState V)
    (before mid : PassState EntryRows) (may : MayKeep lock old before) (on : GoesOn lock before mid) where
  fits : old.front ≤ length mid.seen
  fits =
      let within = may.holds.within in
      omega (
        arith,
        within,
        length-batches before.seen,
        longer_seen lock.passes before.numbers before.seen mid.seen
            on.adds,
      )

  -- Only the first turn was taken.
  pub round_looked : (told → old.halted ≡ None → EachImage (FindsParts old.front old.parts) (past old.vault))
      → IsRound told past (length mid.seen) old old before mid
  round_looked finds = record {
    at_least = longer_seen lock.passes before.numbers before.seen mid.seen on.adds;
    at_most = omega arith;
    goes_on = fits;
    quiet = λ same. refl;
    front = inl refl;
    moments = λ tells runs. now (λ image left. inl (finds_held old (batches_seen mid.seen) (past old.vault)
        (holds_seen old lock.passes before.numbers before.seen mid.seen on.adds may.holds)
        (finds tells runs) image left));
  }

  module _ (risen : V → ℕ) (after : PassState EntryRows) (onward : GoesOn lock mid after) (new : StoreState V)
      (r : Result (Unit {0}) KeepFault) (written : IsWrittenOut told past risen (batches_seen mid.seen) old new r) where
    abbrev count : ℕ
    count = length mid.seen

    long : count ≡ length (batches_seen mid.seen)
    long = sym (length-batches mid.seen)

    seen_after : batches_seen after.seen ≡ batches_seen mid.seen ++ batches_seen onward.adds.rest
    seen_after = batches_on lock.passes mid.numbers mid.seen after.seen onward.adds

    first_seen : take count (batches_seen after.seen) ≡ batches_seen mid.seen
    first_seen =
        take_on count (batches_seen mid.seen) (batches_seen after.seen) (batches_seen onward.adds.rest) seen_after
        (omega (arith, long))
        ∙ take_all count (batches_seen mid.seen) (omega (arith, long))

    by_result : (q : Result (Unit {0}) KeepFault) → OnOk q (AreWritten (batches_seen mid.seen) old new)
        → OnErr q (new.front ≡ old.front) → (new.front ≡ old.front) ⊎ (new.front ≡ count)
    by_result (Ok x) ok err = inr (ok.front ∙ sym long)
    by_result (Err e) ok err = inl err

    pub round_is : (count ≡ old.front → new ≡ old) → IsRound told past count old new before after
    round_is quiet = record {
      at_least = longer_seen lock.passes before.numbers before.seen mid.seen on.adds;
      at_most = longer_seen lock.passes mid.numbers mid.seen after.seen onward.adds;
      goes_on = fits;
      quiet = quiet;
      front = by_result r written.ok written.err;
      moments = λ tells runs. weaken (λ p each image left.
          first_on old.front count (batches_seen mid.seen) (batches_seen after.seen)
          (batches_seen onward.adds.rest) image
          seen_after (omega (arith, fits, long)) (omega (arith, long))
          (subst (λ n. FindsFirst old.front n (batches_seen mid.seen) image) (sym long) (each image left)))
          (written.moments tells);
    }

    -- the batches that were new
    later_seen : drop old.front (batches_seen mid.seen) ≡ later_batches old count (batches_seen after.seen)
    later_seen = ap (drop old.front) (sym first_seen)

    pub holds_after : HoldsFront new (batches_seen after.seen)
    holds_after = holds_seen new lock.passes mid.numbers mid.seen after.seen onward.adds written.holds

  -- The batches were not written.
  pub round_err : (risen : V → ℕ) (new : StoreState V) (fault : KeepFault)
      → IsWrittenOut told past risen (batches_seen mid.seen) old new (Err fault)
      → EndsRound risen (later_batches old (length mid.seen) (batches_seen mid.seen)) old new fault
  round_err risen new fault written =
      subst (λ bs. EndsRound risen bs old new fault)
      (later_seen risen mid (goes_self lock mid) new (Err fault) written) written.fault

  -- They were, and memory ran out at the second turn.
  pub round_memory : (risen : V → ℕ) (after : PassState EntryRows) (onward : GoesOn lock mid after) (new : StoreState V)
      → IsWrittenOut told past risen (batches_seen mid.seen) old new (Ok tt)
      → (length mid.seen ≡ old.front → new ≡ old)
      → EndsRound risen (later_batches old (length mid.seen) (batches_seen after.seen)) old new faults.Memory
  round_memory risen after onward new written quiet =
      (written.ok.on, pick (ℕ_discrete (length mid.seen) old.front))
    where
      pick : Dec (length mid.seen ≡ old.front)
          → (new ≡ old) ⊎ IsMerged (later_batches old (length mid.seen) (batches_seen after.seen)) old new
      pick (yes same) = inl (quiet same)
      pick (no more) = inr (subst (λ bs. IsMerged bs old new) (later_seen risen after onward new (Ok tt) written)
          (written.ok.merged (omega (arith, more, fits, length-batches mid.seen))))

  -- All is done.
  pub round_ok : (risen : V → ℕ) (after : PassState EntryRows) (onward : GoesOn lock mid after) (new : StoreState V)
      (n : ℕ)
      → IsWrittenOut told past risen (batches_seen mid.seen) old new (Ok tt) → n ≡ length mid.seen
      → after.mark ≡ new.front
      → (told → new.halted ≡ None → EachImage (FindsParts new.front new.parts) (past new.vault))
      → HasKept told past (length mid.seen) old new after n
  round_ok risen after onward new n written counts mark finds =
      let front : new.front ≡ n = written.ok.front ∙ length-batches mid.seen ∙ sym counts in
      record {
        counted = counts;
        front = front;
        settled = omega (arith, front, mark);
        finds = λ tells. subst (λ m. EachImage (Finds (take m (batches_seen after.seen))) (past new.vault)) front
            (finds_held new (batches_seen after.seen) (past new.vault)
            (holds_after risen after onward new (Ok tt) written) (finds tells written.ok.on));
        on = written.ok.on;
        merged = λ more. subst (λ m. IsMerged (later_batches old m (batches_seen after.seen)) old new) (sym counts)
            (subst (λ bs. IsMerged bs old new) (later_seen risen after onward new (Ok tt) written)
            (written.ok.merged (omega (arith, more, counts, length-batches mid.seen))));
      }

-- ---- the later parts of a look

drop_get : {X : Type 0} (xs : List X) (i : ℕ) (x : X) → slice_get xs i ≡ Some x → drop i xs ≡ x ∷ drop (suc i) xs
drop_get [] i x is = absurd (none-some x is)
drop_get (y ∷ ys) zero x is = let same : Some y ≡ Some x = is in let one : y ≡ x = cc in ap (λ z. z ∷ ys) one
drop_get (y ∷ ys) (suc i) x is = drop_get ys i x is

-- one part more of a list
pub one_more : {P Z : Type 0} (parts : List (Arc P Z)) (part : Arc P Z) (all left : List P) (place : ℕ)
    → slice_get all place ≡ Some (arc_value part) → shared_parts parts ++ drop place all ≡ left
    → shared_parts (parts ++ part ∷ []) ++ drop (place + 1) all ≡ left
one_more parts part all left place is before =
    let next : place + 1 ≡ suc place = omega arith in
    ap (λ n. shared_parts (parts ++ part ∷ []) ++ drop n all) next
    ∙ ap (λ l. l ++ drop (suc place) all) (map-append arc_value parts (part ∷ []))
    ∙ append_assoc (shared_parts parts) (arc_value part ∷ []) (drop (suc place) all)
    ∙ ap (λ l. shared_parts parts ++ l) (sym (drop_get all place (arc_value part) is)) ∙ before

drop_whole : {X : Type 0} (xs : List X) (n : ℕ) → length xs ≤ n → drop n xs ≡ []
drop_whole [] zero le = refl
drop_whole [] (suc n) le = refl
drop_whole (x ∷ xs) zero le = absurd (omega (arith, le))
drop_whole (x ∷ xs) (suc n) le = drop_whole xs n (omega (arith, le))

pub all_parts : {P Z : Type 0} (parts : List (Arc P Z)) (all left : List P) (place : ℕ) → length all ≤ place
    → shared_parts parts ++ drop place all ≡ left → shared_parts parts ≡ left
all_parts parts all left place le is =
    sym (append-nil (shared_parts parts)) ∙ ap (λ l. shared_parts parts ++ l) (sym (drop_whole all place le)) ∙ is

drop_past : {X : Type 0} (xs ys : List X) (n k : ℕ) → n ≡ length xs + k → drop n (xs ++ ys) ≡ drop k ys
drop_past [] ys n k is = ap (λ m. drop m ys) (omega (arith, is))
drop_past (x ∷ xs) ys zero k is = absurd (omega (arith, is))
drop_past (x ∷ xs) ys (suc n) k is = drop_past xs ys n k (omega (arith, is))

-- The last parts of a look are those of its last batches.
pub later_parts : {P : Type 0} (look : Contents P) (front from : ℕ) → look.settled ≤ front → front ≤ count_of look
    → from + (count_of look - front) ≡ length (parts_of look)
    → drop from (parts_of look) ≡ drop (front - look.settled) look.unsettled
later_parts look front from up within long =
    drop_past look.days look.unsettled from (front - look.settled)
    (omega (arith, up, within, long, length-append look.days look.unsettled))

-- ---- a plan

-- What is planned for the later parts, in one.
pub planned : {T E : Type 0} (r : Result T E) (stored : List Listed) (batches later : List (List Numbered))
    (old : T → List ℕ) (new : T → List DayRows) → batches ≡ later → IfOk r (λ plan. KeepsRows stored batches
    (old plan) (new plan))
    → IfOk r (λ plan. AreOfTheirDays (new plan)) → IfOk r (λ plan. AreListed stored (old plan))
    → IfOk r (λ plan. JoinsDays stored batches (old plan) (new plan))
    → IfOk r (λ plan. IsPlanOf stored later (old plan) (new plan))
planned (Err e) stored batches left old new same rows days listed joins = tt
planned (Ok plan) stored batches left old new same rows days listed joins =
    subst (λ list. IsPlanOf stored list (old plan) (new plan)) same
    (record { rows = rows; days = days; listed = listed; joins = joins })

-- a plan in other words for the same
pub plan_as : (stored parts : List Listed) (look : Contents (List Numbered)) (n front : ℕ) (old files : List ℕ)
    (new news : List DayRows) → stored ≡ parts → n ≡ front → old ≡ files → new ≡ news
    → IsPlanOf stored (drop (n - look.settled) look.unsettled) old new
    → IsPlanOf parts (drop (front - look.settled) look.unsettled) files news
plan_as stored parts look n front old files new news same_parts same_front same_files same_news plan =
    subst (λ l. IsPlanOf l (drop (front - look.settled) look.unsettled) files news) same_parts
    (subst (λ m. IsPlanOf stored (drop (m - look.settled) look.unsettled) files news) same_front
    (subst (λ fs. IsPlanOf stored (drop (n - look.settled) look.unsettled) fs news) same_files
    (subst (IsPlanOf stored (drop (n - look.settled) look.unsettled) old) same_news plan)))

-- The rows of the stored parts and of the later ones have numbers that differ.
pub out_apart : {V : Type 0} (look : Contents (List Numbered)) (t : StoreState V) (parts : List Listed) (front : ℕ)
    → parts ≡ t.parts → front ≡ t.front → look.settled ≤ t.front
    → (history : History) × Stands rows look history × HoldsFront t (batches_in history)
    → are_numbered_apart (rows_of_listed parts ++ flat_map rows (drop (front - look.settled) look.unsettled)) ≡ true
out_apart look t parts front same_parts same_front up (history, stands, holds) =
    ap (λ l. are_numbered_apart (rows_of_listed l ++ flat_map rows (drop
    (front - look.settled) look.unsettled))) same_parts
    ∙ ap (λ n. are_numbered_apart (rows_of_listed t.parts ++ flat_map rows (drop
    (n - look.settled) look.unsettled))) same_front
    ∙ all_apart history look t stands holds up

-- The same of a store in other words.
module _ {V : Type 0} (told : Type 0) (past : V → Past) (risen : V → ℕ) (history : History)
    (look : Contents (List Numbered)) (s t : StoreState V) (same : s ≡ t) (stands : Stands rows look history)
    (holds : HoldsFront t (batches_in history)) (up : look.settled ≤ t.front) (on : t.halted ≡ None) where
  holds_s : HoldsFront s (batches_in history)
  holds_s = subst (λ (u : StoreState V). HoldsFront u (batches_in history)) (sym same) holds

  up_s : look.settled ≤ s.front
  up_s = subst (λ (u : StoreState V). look.settled ≤ u.front) (sym same) up

  on_s : s.halted ≡ None
  on_s = ap (λ (u : StoreState V). u.halted) same ∙ on

  counts : (count : ℕ) → count ≡ count_of look → count ≡ length (batches_in history)
  counts n is = is ∙ stands.counted ∙ sym (length-map history entry_rows)

  pub out_none : (r : Result (Unit {0}) KeepFault) → OnOk r (s.front ≡ count_of look)
      → IfErr r (λ fault. fault ≡ faults.Memory)
      → (told → s.halted ≡ None → EachImage (FindsParts s.front s.parts) (past s.vault))
      → IsWrittenOut told past risen (batches_in history) t t r
  out_none r all memory finds =
      subst (λ (u : StoreState V). IsWrittenOut told past risen (batches_in history) u u r) same
      (written_none history look s stands holds_s up_s told past risen r on_s (by r all) memory
      (λ tells. finds tells on_s))
    where
      by : (r : Result (Unit {0}) KeepFault) → OnOk r (s.front ≡ count_of look)
          → OnOk r (s.front ≡ length (batches_in history))
      by (Ok x) is = counts s.front is
      by (Err e) is = tt

  module _ (files : List ℕ) (news : List DayRows)
      (plan : IsPlanOf s.parts (drop (s.front - look.settled) look.unsettled) files news) (count : ℕ)
      (is : count ≡ count_of look) (new : StoreState V)
      (run : told → s.halted ≡ None
      → Always (EachImage (FindsOldOrNew files news count s)) (past s.vault) (past new.vault)) where
    pub out_ok : IsReplaced files news count s new → (s.halted ≡ None → IsSpent files news s → ⊥)
        → IsWrittenOut told past risen (batches_in history) t new (Ok tt)
    out_ok replaced room =
        subst (λ (u : StoreState V). IsWrittenOut told past risen (batches_in history) u new (Ok tt)) same
        (written_ok history look s stands holds_s up_s files news plan count (counts count is) told past risen new
        replaced (room on_s) (λ tells. run tells on_s))

    pub out_err : (fault : StoreFault) (ended : KeepFault) → ended ≡ keep_fault_of fault → HasSameList s new
        → ((n : ℕ) → fault ≡ stores.Halted n → s.halted ≡ Some n)
        → (fault ≡ stores.Spent → IsSpent files news s) → (s.halted ≡ None → IsSpent files news s
        → fault ≡ stores.Spent)
        → (fault ≡ stores.VaultFault → Rose (risen s.vault) (risen new.vault) × (new.halted ≡ Some (risen new.vault)))
        → (fault ≢ stores.VaultFault → new ≡ s)
        → IsWrittenOut told past risen (batches_in history) t new (Err ended)
    out_err fault ended named list halted spent spends rose stays =
        subst (λ e. IsWrittenOut told past risen (batches_in history) t new (Err e)) (sym named)
        (subst (λ (u : StoreState V). IsWrittenOut told past risen (batches_in history) u new (Err
        (keep_fault_of fault))) same
        (written_err history look s stands holds_s up_s files news plan count (counts count is) told past risen new
        (keep_fault_of fault) list
        (ends history look s stands holds_s up_s files news plan count
        (counts count is) risen new fault on_s list halted
        spent (spends on_s) rose stays) (λ tells. run tells on_s)))
