-- How the history that a caller has seen grows.
use Rattle.std.proofs.Common.{◌≡◌, ℕ, ◌+◌, ◌<◌, true, false, List, [], ◌∷◌, ◌++◌, length, refl, sym, ap, subst}
use Rattle.std.proofs.Common.{◌∙◌, arith, append_assoc, length-append}
use Rattle.std.specs.List.{AllByRecursion, filter}
use Rattle.std.specs.Prelude.{All, Some}
use Rattle.std.proofs.lemmas.Bool.Decides.{nat_tests}
use Rattle.std.proofs.lemmas.List.{length-map, map-append}
use Rattle.std.proofs.lemmas.List.Elements.{All-head, All-tail}
use Rattle.log_model.specs.History.{History}
use Rattle.log_model.specs.Row.{Batch}
use Rattle.turn_lock.specs.declared.view.Entry.{Entry}
use Rattle.turn_lock.specs.Totals.{times}
use Rattle.turn_lock.specs.Entries.{AreStrangers, Continues, IsStranger, is_among, made, maker_of, places}
use Rattle.turn_lock.specs.Passes.{Finds, LockId, IsPassOf, PassState, after_turn, committed, mine}
use Rattle.turn_lock.specs.Views.{end_of}
use Rattle.turn_lock.proofs.Laws.{each_stranger}
use Rattle.turn_lock.proofs.Places.{places_made, places_stay}
use Rattle.log_core.specs.Entries.{entry_of, seen_history}
use Rattle.log_core.specs.declared.entries.EntryRows.{EntryRows}
use Rattle.log_desk.specs.Calls.{Inserted, Looked, TookTurn}
use Rattle.log_desk.specs.Seen.{Caller, Follows, Gains, IsStrange, TakesTurn, caller_of, is_own, seen_of, turn_of}

-- It has as many entries as the pass has seen.
pub length-seen : (seen : List (Entry EntryRows)) → length (seen_history seen) ≡ length seen
length-seen seen = length-map seen entry_of

-- ---- entries of others

not_among : (ns : List ℕ) (n : ℕ) → times n ns ≡ 0 → is_among ns (Some n) ≡ false
not_among ns n none = grind (arith, nat_tests)

among : (ns : List ℕ) → 0 < length ns → is_among ns (Some (maker_of ns)) ≡ true
among [] some = absurd (omega arith)
among (n ∷ ns) some = grind (arith, nat_tests)

-- They are none of the caller's own.
pub none_own : (caller : Caller) (entries : History) → AllByRecursion (IsStrange caller) entries
    → filter (is_own caller) entries ≡ []
none_own caller [] each = refl
none_own caller (entry ∷ entries) each =
    let maker = each.0.maker in
    let other : is_own caller entry ≡ false =
    ap (is_among caller.numbers) maker ∙ not_among caller.numbers each.0.number each.0.other in
    rw other (none_own caller entries each.1)

-- Where one caller has the only number, there are none.
pub none_beside_one : (caller : Caller) (entries : History) → caller.lock.passes ≡ 1 → caller.numbers ≡ 0 ∷ []
    → AllByRecursion (IsStrange caller) entries → entries ≡ []
none_beside_one caller [] one number each = refl
none_beside_one caller (entry ∷ entries) one number each =
    let strange = each.0 in
    let below : strange.number < 1 = subst (λ passes. strange.number < passes) one strange.below in
    let first : strange.number ≡ 0 = omega arith in
    let none : times 0 (0 ∷ []) ≡ 0 = subst (λ n. times n (0 ∷ []) ≡ 0) first
    (subst (λ ns. times strange.number ns ≡ 0) number strange.other) in
    absurd (omega arith)

each_strange : (p : PassState EntryRows) (es : List (Entry EntryRows)) → All (IsStranger p.lock.passes p.numbers) es
    → AllByRecursion (IsStrange (caller_of p)) (seen_history es)
each_strange p [] each = tt
each_strange p (e ∷ es) each =
    let Other : Entry EntryRows → Type 0 = IsStranger p.lock.passes p.numbers in
    let other : Other e = All-head Other e es each in
    let strange : IsStrange (caller_of p) (entry_of e) =
    record { number = other.number; maker = other.maker; below = other.below; other = other.other } in
    (strange, each_strange p es (All-tail Other e es each))

-- Entries of other callers to the pass are those of others than its caller.
pub strange : (p : PassState EntryRows) (es : List (Entry EntryRows)) → AreStrangers p.lock.passes p.numbers es
    → AllByRecursion (IsStrange (caller_of p)) (seen_history es)
strange p es strangers = each_strange p es (each_stranger p.lock.passes p.numbers es strangers)

-- ---- a turn

-- Without a commit a turn leaves a pass that has looked.
pub looked_left : (l : LockId) (p q r : PassState EntryRows) → IsPassOf l p → Finds p q → r ≡ after_turn q
    → Looked l p r
looked_left l p q r is finds left =
    subst (Looked l p) (sym left) record {
      took = record {
        caller = ap caller_of finds.same;
        turn = ap (λ (s : PassState EntryRows). s.turns ++ end_of q.seen q.mark ∷ []) finds.same;
        mark = record { rises = finds.rises; stays = finds.settles };
      };
      adds = subst (λ n. Continues n p.numbers p.seen q.seen) (ap (λ (lock : LockId). lock.passes) is.lock) finds.knows;
    }

-- With one it leaves a pass that took its turn.
pub took_committed : (entry : EntryRows) (p q r : PassState EntryRows) → Finds p q
    → r ≡ after_turn (committed entry q) → TookTurn p r
took_committed entry p q r finds left =
    subst (TookTurn p) (sym left) record {
      caller = ap caller_of finds.same;
      turn = ap (λ (s : PassState EntryRows). s.turns ++ end_of (committed entry q).seen q.mark ∷ []) finds.same;
      mark = record { rises = finds.rises; stays = finds.settles };
    }

-- ---- what a call of the desk does to what its caller has seen

pub takes_turn : (p r : PassState EntryRows) → TookTurn p r → TakesTurn (seen_of p) (seen_of r)
takes_turn p r took =
    took.turn ∙ ap (λ (n : ℕ). p.turns ++ record { count = n; mark = r.mark } ∷ []) (sym (length-seen r.seen))

same_passes : (l : LockId) (p : PassState EntryRows) → IsPassOf l p → l.passes ≡ p.lock.passes
same_passes l p is = sym (ap (λ (lock : LockId). lock.passes) is.lock)

-- A caller that looks follows the history.
pub follows : (l : LockId) (p r : PassState EntryRows) → IsPassOf l p → Looked l p r
    → Follows (caller_of p) (seen_of p) (seen_of r)
follows l p r is looked =
    let adds = looked.adds in
    let took = looked.took in
    record {
      others = seen_history adds.rest;
      longer = ap seen_history adds.begins ∙ map-append entry_of p.seen adds.rest;
      strange = strange p adds.rest
          (subst (λ n. AreStrangers n p.numbers adds.rest) (same_passes l p is) adds.strangers);
      settled = took.mark.rises;
      stays = took.mark.stays;
      more_turns = turn_of (seen_of r) ∷ [];
      turns = takes_turn p r took;
    }

-- A caller that inserts a batch gains it.
pub gains : (l : LockId) (batch : Batch) (number : ℕ) (p r : PassState EntryRows) → IsPassOf l p
    → Inserted batch number p r → Gains (caller_of p) (seen_of p) (seen_of r) batch
gains l batch number p r is inserted =
    let inserts = inserted.inserts in
    let took = inserted.took in
    let own : Entry EntryRows = made (maker_of p.numbers) inserts.rows in
    record {
      others = seen_history inserts.others;
      entry = entry_of own;
      longer = ap seen_history inserts.seen ∙ map-append entry_of p.seen (inserts.others ++ own ∷ [])
          ∙ ap (λ l. seen_history p.seen ++ l) (map-append entry_of inserts.others (own ∷ []));
      strange = strange p inserts.others inserts.strangers;
      own = among p.numbers is.some_number;
      rows = inserts.is_batch;
      settled = took.mark.rises;
      stays = took.mark.stays;
      turn = takes_turn p r took;
    }

-- ---- the places of its own entries

-- A look adds none.
pub mine_looked : (l : LockId) (p r : PassState EntryRows) → Looked l p r → mine r ≡ mine p
mine_looked l p r looked =
    ap (λ (c : Caller). places 1 c.numbers r.seen) looked.took.caller
    ∙ places_stay l.passes 1 p.numbers p.seen r.seen looked.adds

-- An insert adds one, the last.
pub mine_inserted : (l : LockId) (batch : Batch) (number : ℕ) (p r : PassState EntryRows) → IsPassOf l p
    → Inserted batch number p r → mine r ≡ mine p ++ number ∷ []
mine_inserted l batch number p r is inserted =
    let inserts = inserted.inserts in
    let before : List (Entry EntryRows) = p.seen ++ inserts.others in
    let seen : r.seen ≡ before ++ made (maker_of p.numbers) inserts.rows ∷ [] =
    inserts.seen ∙ sym (append_assoc p.seen inserts.others (made (maker_of p.numbers) inserts.rows ∷ [])) in
    let number_is : length before + 1 ≡ number =
    omega (arith, ap length seen, inserted.counted, length-append before (made (maker_of p.numbers) inserts.rows ∷ [])) in
    let knows : Continues p.lock.passes p.numbers p.seen before =
    record { rest = inserts.others; begins = refl; strangers = inserts.strangers } in
    ap (λ (c : Caller). places 1 c.numbers r.seen) inserted.took.caller ∙ ap (places 1 p.numbers) seen
    ∙ places_made p.numbers before inserts.rows is.some_number
    ∙ ap (λ m. m ++ (length before + 1) ∷ []) (places_stay p.lock.passes 1 p.numbers p.seen before knows)
    ∙ ap (λ n. mine p ++ n ∷ []) number_is
