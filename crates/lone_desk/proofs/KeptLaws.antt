-- The rounds of a single caller.
use Rattle.std.proofs.Common.{◌≡◌, ℕ, ◌≤◌, List, ◌++◌, append-nil, length, take, drop, Ok, Err}
use Rattle.std.proofs.Common.{ap, subst, sym, ◌∙◌, arith}
use Rattle.std.specs.Prelude.{◌⊎◌, None, Result, IfErr, IfOk, MatchResult}
use Rattle.std.proofs.lemmas.List.{length-map, map-append, take_all}
use Rattle.log_model.specs.History.{History, batches_in, entry_rows}
use Rattle.log_model.specs.Row.{Batch}
use Rattle.vl_vault.specs.Disk.{Past}
use Rattle.vl_vault.specs.Moments.{Always, EachImage}
use Rattle.part_store.specs.State.{StoreState}
use Rattle.part_store.specs.Finds.{Finds}
use Rattle.log_desk.specs.EntryRows.{EntryRows}
use Rattle.log_desk.specs.Keeping.{EndsRound, FindsFirst, GoesOn, HasKept, IsRound, MayKeep, batches_seen}
use Rattle.log_desk.specs.Keeping.{later_batches}
use Rattle.log_desk.specs.LockEntries.{AreStrangers}
use Rattle.log_desk.specs.LogEntries.{entry_of, seen_history}
use Rattle.log_desk.specs.Passes.{IsPassOf, LockId, PassState}
use Rattle.log_desk.specs.Seen.{caller_of}
use Rattle.log_desk.specs.declared.fault.KeepFault.{KeepFault}
use Rattle.log_desk.proofs.SeenLaws.{length-seen, none_beside_one, strange}
use Rattle.lone_desk.specs.Alone.{IsAlone}
use Rattle.lone_desk.specs.Kept.{RoundsAlone}

module _ (lock : LockId) (before after : PassState EntryRows) (is : IsPassOf lock before)
    (alone : IsAlone (caller_of before)) (on : GoesOn lock before after) where
  -- No one else added anything.
  pub same_seen : seen_history after.seen ≡ seen_history before.seen
  same_seen =
      let adds = on.adds in
      let passes : lock.passes ≡ before.lock.passes = sym (ap (λ (l : LockId). l.passes) is.lock) in
      let others : AreStrangers before.lock.passes before.numbers adds.rest =
      subst (λ n. AreStrangers n before.numbers adds.rest) passes adds.strangers in
      ap seen_history adds.begins
      ∙ map-append entry_of before.seen adds.rest
      ∙ ap (λ (more : History). seen_history before.seen ++ more)
      (none_beside_one (caller_of before) (seen_history adds.rest) alone.one_pass alone.first
      (strange before adds.rest others))
      ∙ append-nil (seen_history before.seen)

  same_length : length after.seen ≡ length before.seen
  same_length = sym (length-seen after.seen) ∙ ap length same_seen ∙ length-seen before.seen

  module _ {V : Type 0} (told : Type 0) (past : V → Past) (faults : V → ℕ) (old new : StoreState V) (count : ℕ)
      (round : IsRound told past count old new before after) where
    abbrev batches : List Batch
    batches = batches_seen before.seen

    same_batches : batches_seen after.seen ≡ batches
    same_batches = ap batches_in same_seen

    counted : count ≡ length batches
    counted = omega (
      arith,
      round.at_least,
      round.at_most,
      same_length,
      length-seen before.seen,
      length-map (seen_history before.seen) entry_rows,
    )

    all_seen : (n : ℕ) → n ≡ length batches → take n (batches_seen after.seen) ≡ batches
    all_seen n is = ap (take n) same_batches ∙ take_all n batches (omega (arith, is))

    abbrev Kept : ℕ → Type 0
    Kept = HasKept told past count old new after

    abbrev Ends : KeepFault → Type 0
    Ends = EndsRound faults (later_batches old count (batches_seen after.seen)) old new

    abbrev IsAllKept : ℕ → Type 0
    IsAllKept n = (n ≡ length batches) × (new.front ≡ n) × (after.mark ≡ n) × (new.halted ≡ None)
        × (told → EachImage (Finds batches) (past new.vault))

    kept : after.mark ≤ new.front → (result : Result ℕ KeepFault) → MatchResult result Kept Ends
        → IfOk result IsAllKept
    kept up (Ok n) has =
        let all : n ≡ length batches = has.counted ∙ counted in (
          all,
          has.front,
          omega (arith, has.settled, has.front, up),
          has.on,
          λ tells. subst (λ (bs : List Batch). EachImage (Finds bs) (past new.vault)) (all_seen n all)
              (has.finds tells),
        )
    kept up (Err fault) ends = tt

    ended : (result : Result ℕ KeepFault) → MatchResult result Kept Ends
        → IfErr result (EndsRound faults (drop old.front batches) old new)
    ended (Ok n) has = tt
    ended (Err fault) ends = subst (λ (bs : List Batch). EndsRound faults (drop old.front bs) old new fault)
        (all_seen count counted) ends

    pub rounds_alone : MayKeep lock new after → (result : Result ℕ KeepFault) → MatchResult result Kept Ends
        → RoundsAlone told past faults batches old new after.mark result
    rounds_alone may result is = record {
      goes_on = subst (λ n. old.front ≤ n) counted round.goes_on;
      quiet = λ none. round.quiet (counted ∙ none);
      front = subst (λ n. (new.front ≡ old.front) ⊎ (new.front ≡ n)) counted round.front;
      moments = λ tells runs.
          subst (λ (bs : List Batch). Always (EachImage (FindsFirst old.front (length batches) bs)) (past old.vault)
          (past new.vault)) same_batches
          (subst (λ n. Always (EachImage (FindsFirst old.front n (batches_seen after.seen))) (past old.vault)
          (past new.vault)) counted (round.moments tells runs));
      ok = kept may.mark result is;
      err = ended result is;
    }
