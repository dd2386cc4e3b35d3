-- What one turn at the shelf does to what a pass has seen.
use Rattle.std.proofs.Common.{◌≡◌, ◌≢◌, ℕ, ◌+◌, ◌^◌, ◌<◌, ◌≤◌, List, [], ◌∷◌, ◌++◌, length, sym, ap, subst, ◌∙◌, arith}
use Rattle.std.proofs.Common.{append_assoc, length-append}
use Rattle.std.specs.Prelude.{IfOk, Option, Some, None, Result, Ok, Err}
use Rattle.std.proofs.lemmas.Bool.Decides.{nat_tests}
use Rattle.log_model.specs.Core.{Contents, Stands, after, commit, count_of, held_limit, with_part}
use Rattle.log_model.specs.History.{AreRowsOf, Entry as Accepted, History, Numbered, entry_rows, with_batch}
use Rattle.log_model.specs.Row.{Batch}
use Rattle.turn_lock.specs.declared.view.Entry.{Entry}
use Rattle.turn_lock.specs.Entries.{made, maker_of, whats}
use Rattle.turn_lock.specs.Passes.{Finds, PassState, after_turn, committed}
use Rattle.turn_lock.proofs.Laws.{length-whats, numbers-found, whats-committed}
use Rattle.log_core.specs.Entries.{batch_of, newest_in, seen_history, stands_for}
use Rattle.log_core.specs.Faults.{IsRefused, commit_fault}
use Rattle.log_core.specs.declared.entries.EntryRows.{EntryRows}
use Rattle.log_core.specs.declared.fault.CommitFault.{CommitFault}
use Rattle.log_core.proofs.EntryLaws.{counted_entries, newest_committed, stands_newest, stands_seen}
use Rattle.log_desk.specs.Calls.{Inserted, Inserts}
use Rattle.log_core.specs.declared.fault.CommitFault.TheVariants as commits
use Rattle.log_desk.specs.Faults.{Refuses, fault_of, last_number}
use Rattle.log_desk.proofs.SeenLaws.{took_committed}

-- the rows of a part of the shelf
abbrev pub rows : List Numbered → List Numbered
rows part = part

-- What a commit of a part of this batch leaves in the shelf, for which entries stood before.
pub record Committed (batch : Batch) (entries : List EntryRows) (new : Contents (List Numbered)) : Type 0 where
  pub newest : batch_of (newest_in rows new.unsettled) ≡ batch
  pub stands : stands_for rows new (entries ++ newest_in rows new.unsettled ∷ [])

pub is_committed : (part : List Numbered) (batch : Batch) (entries : List EntryRows) (number : ℕ)
    (old new : Contents (List Numbered)) → 0 < length batch → AreRowsOf part batch
    → ((kept : List Numbered) × (new ≡ with_part old kept) × (kept ≡ with_batch number part))
    → ((history : History) (entry : Accepted) → AreRowsOf part (entry_rows entry) → Stands rows old history
    → Stands rows new (after history (commit entry)))
    → stands_for rows old entries → Committed batch entries new
is_committed part batch entries number old new some are held commits stands =
    let newest = newest_committed rows old new part held.0 number batch some are held.1 held.2 in
    record {
      newest = newest;
      stands = stands_newest rows old new part batch entries are newest commits stands;
    }

-- So the shelf stands for what the pass has then seen.
pub stands_left : (batch : Batch) (new last : Contents (List Numbered)) (q r : PassState EntryRows)
    → Committed batch (whats q.seen) new → last ≡ new → r ≡ committed (newest_in rows new.unsettled) q
    → stands_for rows last (whats r.seen)
stands_left batch new last q r done same is =
    let entry = newest_in rows new.unsettled in
    subst (λ held. stands_for rows held (whats r.seen)) (sym same)
    (subst (stands_for rows new) (sym (ap (λ s. whats s.seen) is ∙ whats-committed entry q)) done.stands)

-- The pass has then seen what its turn found, and after that the batch.
inserts : (batch : Batch) (entries : List EntryRows) (new : Contents (List Numbered)) (p q r : PassState EntryRows)
    → Committed batch entries new → Finds p q → r ≡ after_turn (committed (newest_in rows new.unsettled) q)
    → Inserts batch p r
inserts batch entries new p q r done finds left =
    let knows = finds.knows in
    let entry = newest_in rows new.unsettled in
    record {
      others = knows.rest;
      strangers = knows.strangers;
      rows = entry;
      is_batch = done.newest;
      seen = ap (λ s. s.seen) left ∙ ap (λ ns. q.seen ++ made (maker_of ns) entry ∷ []) (numbers-found p q finds)
          ∙ ap (λ l. l ++ made (maker_of p.numbers) entry ∷ []) knows.begins
          ∙ append_assoc p.seen knows.rest (made (maker_of p.numbers) entry ∷ []);
    }

-- Where nothing prevents one batch more there is room for it.
has_room : (held : Contents (List Numbered)) → commit_fault held ≡ None → length held.unsettled ≤ held_limit
    → count_of held < 2 ^ 63 → (length held.unsettled < held_limit) × (count_of held + 1 ≤ last_number)
has_room held accepted few small = grind (arith, nat_tests)

-- So it inserted the batch, under the number that the shelf gave it.
pub inserted : (batch : Batch) (number : ℕ) (old new : Contents (List Numbered))
    (p q r : PassState EntryRows)
    → Finds p q → r ≡ after_turn (committed (newest_in rows new.unsettled) q)
    → stands_for rows old (whats q.seen) → Committed batch (whats q.seen) new → old.settled ≡ q.mark
    → number ≡ count_of old + 1 → count_of old < 2 ^ 63 → commit_fault old ≡ None → Inserted batch number p r
inserted batch number old new p q r finds left stands done settled counted small accepted =
    let entry = newest_in rows new.unsettled in
    let before = counted_entries rows old (whats q.seen) stands in
    let mark : r.mark ≡ q.mark = ap (λ (s : PassState EntryRows). s.mark) left in
    let few = stands.few in
    let room = has_room old accepted few small in
    record {
      took = took_committed entry p q r finds left;
      inserts = inserts batch (whats q.seen) new p q r done finds left;
      counted = ap (λ (s : PassState EntryRows). length s.seen) left
          ∙ omega (
            arith,
            counted,
            before,
            length-whats q.seen,
            length-append q.seen (made (maker_of q.numbers) entry ∷ []),
          );
      few = omega (arith, counted, settled, mark, few, room.0);
      numbered = omega (arith, counted, room.1);
    }

-- A look at a shelf that stands for the entries that were seen stands for the history of them.
pub looked : {E : Type 0} (r : Result (Contents (List Numbered)) E) (held : Contents (List Numbered))
    (seen : List (Entry EntryRows))
    → IfOk r (λ look. look ≡ held) → stands_for rows held (whats seen)
    → IfOk r (λ look. Stands rows look (seen_history seen))
looked (Ok look) held seen is stands =
    subst (λ s. Stands rows s (seen_history seen)) (sym is) (stands_seen rows held seen stands)
looked (Err fault) held seen is stands = tt

-- ---- why a batch is refused

prevented : (stands : Option CommitFault) (part back : List Numbered) (fault : CommitFault) → fault ≢ commits.Memory
    → IsRefused rows stands part fault back → stands ≡ Some fault
prevented (Some found) part back fault other refused = ap (λ f. Some f) (sym refused.0)
prevented None part back fault other refused = absurd (other refused.0)

is_full : (held : Contents (List Numbered)) (limit : ℕ) → commit_fault held ≡ Some (commits.Full limit)
    → (length held.unsettled ≡ held_limit) × (limit ≡ held_limit)
is_full held limit prevents = grind (arith, nat_tests)

is_spent : (held : Contents (List Numbered)) → commit_fault held ≡ Some commits.Spent
    → (length held.unsettled ≡ held_limit → ⊥) × (count_of held ≡ last_number)
is_spent held prevents = grind (arith, nat_tests)

full_is_no_memory : (limit : ℕ) → commits.Full limit ≢ commits.Memory
full_is_no_memory limit same = absurd cc

spent_is_no_memory : commits.Spent ≢ commits.Memory
spent_is_no_memory same = absurd cc

-- So the cause is one that the desk names, where this much was seen.
pub refuses : (held : Contents (List Numbered)) (part back : List Numbered) (fault : CommitFault) (count mark : ℕ)
    → IsRefused rows (commit_fault held) part fault back → count_of held ≡ count → held.settled ≡ mark
    → Refuses count mark (fault_of fault)
refuses held part back (commits.Full limit) count mark refused counted settled =
    let full = is_full held limit
    (prevented (commit_fault held) part back (commits.Full limit) (full_is_no_memory limit) refused) in
    (omega (arith, full.0, counted, settled), full.1)
refuses held part back commits.Spent count mark refused counted settled =
    let spent = is_spent held (prevented (commit_fault held) part back commits.Spent spent_is_no_memory refused) in
    ((λ full. spent.0 (omega (arith, full, counted, settled))), omega (arith, spent.1, counted))
refuses held part back commits.Memory count mark refused counted settled = tt
