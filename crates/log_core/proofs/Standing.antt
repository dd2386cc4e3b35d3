-- What a commit and a swap leave stands for a history.
use Rattle.std.proofs.Common.{◌≡◌, ◌<◌, ◌≤◌, ◌+◌, zero, suc, ℕ, List, [], ◌∷◌, length, take, drop, None, arith, sym, ap}
use Rattle.std.proofs.Common.{subst, ◌∙◌}
use Rattle.std.proofs.Common.{All, Option, refl}
use Rattle.std.specs.Prelude.{OnErr, OnOk, Result, Ok, Err}
use Rattle.std.specs.List.{flat_map}
use Rattle.std.specs.List.Sorted.{IsPermutation}
use Rattle.std.proofs.lemmas.List.{length-map, take-map, take_all}
use Rattle.std.proofs.lemmas.List.Elements.{All-head, All-tail}
use Rattle.log_model.specs.Batches.{AreOf, batch_rows}
use Rattle.log_model.specs.Core.{AreFront, Contents, Goes, HoldsEach, Stands, after, commit, count_of, held_limit}
use Rattle.log_model.specs.Core.{nothing, swapped, with_part}
use Rattle.log_model.specs.History.{AreBatch, AreRowsOf, Entry, History, Numbered, batches_in, entry_rows, numbered}
use Rattle.log_model.specs.History.{numbered_in, with_batch}
use Rattle.log_model.specs.Row.{Batch}
use Rattle.log_model.proofs.Joining.{numbered_batches, stands_swapped}
use Rattle.log_model.proofs.Numbering.{batch_is_one, batch_with_number}
use Rattle.log_model.proofs.Standing.{stands_after}
use Rattle.std.proofs.lemmas.List.Sorted.{IsPermutation-refl}
use Rattle.log_core.specs.Commits.{GoesBy, HaveNumber, StandsWith}
use Rattle.log_core.specs.Faults.{IsRefused}
use Rattle.log_core.specs.Settled.{AreWhole, HaveRows, StandsForParts, settled_only}
use Rattle.log_core.specs.declared.fault.CommitFault.{CommitFault}
use Rattle.log_core.specs.declared.fault.CommitFault.TheVariants.{Memory}

-- Nothing stands for the empty history.
pub stands_nothing : {P : Type 0} (rows : P → List Numbered) (held : Contents P) → held ≡ nothing → Stands rows held []
stands_nothing rows held is = subst (λ h. Stands rows h []) (sym is) empty
  where
    empty : Stands rows nothing []
    empty = record { counted = omega arith; few = omega arith; days = IsPermutation-refl []; unsettled = tt }

-- Under its number the part holds a batch.
pub have_number : (rows : List Numbered) (number : ℕ) → AreBatch rows → HaveNumber (with_batch number rows) number
have_number rows number (batch, some, are) = (batch, some, batch_with_number number rows batch are)

-- A part that gets the next number is a commit of its batch.
pub goes_by : {P : Type 0} (rows : P → List Numbered) (part kept : P) (number : ℕ) (old new : Contents P)
    → number ≡ count_of old + 1 → length old.unsettled < held_limit → rows kept ≡ with_batch number (rows part)
    → new ≡ with_part old kept → GoesBy rows old part new
goes_by rows part kept number old new next room same held entry are =
    let renamed : IsPermutation (with_batch number (rows part)) (numbered_in number (entry_rows entry)) =
    batch_with_number number (rows part) (entry_rows entry) are in
    let is : number ≡ suc (count_of old) = omega (arith, next) in (
      kept,
      room,
      subst (λ n. IsPermutation (rows kept) (numbered_in n (entry_rows entry))) is
          (subst (λ list. IsPermutation list (numbered_in number (entry_rows entry))) (sym same) renamed),
      held,
    )

-- So what stood for a history stands for one more entry.
pub stands_with : {P : Type 0} (rows : P → List Numbered) (part : P) (old new : Contents P) → GoesBy rows old part new
    → StandsWith rows old part new
stands_with rows part old new goes history entry are stands =
    stands_after rows old new history (commit entry) (goes entry are) stands

-- After a part more there is a history still.
pub stands_one_more : {P : Type 0} (rows : P → List Numbered) (part : P) (old new : Contents P)
    → length old.unsettled < held_limit → HaveNumber (rows part) (count_of old + 1) → new ≡ with_part old part
    → (history : History) × Stands rows old history → (history : History) × Stands rows new history
stands_one_more rows part old new room ([], some, are) is standing = absurd (omega (arith, some))
stands_one_more rows part old new room (row ∷ others, some, are) is standing =
    let entry : Entry = record { first = row; others = others; maker = None } in
    let next : count_of old + 1 ≡ suc (count_of old) = omega arith in
    let goes : Goes rows old (commit entry) new =
    (part, room, subst (λ n. IsPermutation (rows part) (numbered_in n (row ∷ others))) next are, is) in
    (after standing.0 (commit entry), stands_after rows old new standing.0 (commit entry) goes standing.1)

-- Whether it was appended or not, there is a history.
pub stands_appended : {P A E : Type 0} (rows : P → List Numbered) (part : P) (old new : Contents P) (r : Result A E)
    → length old.unsettled < held_limit → HaveNumber (rows part) (count_of old + 1)
    → OnOk r (new ≡ with_part old part) → OnErr r (new ≡ old) → (history : History) × Stands rows old history
    → (history : History) × Stands rows new history
stands_appended rows part old new (Ok x) room batch ok err standing =
    stands_one_more rows part old new room batch ok standing
stands_appended rows part old new (Err e) room batch ok err standing =
    (standing.0, subst (λ held. Stands rows held standing.0) (sym err) standing.1)

-- A front of which there are day parts is no longer than what is counted.
pub front_within : {P : Type 0} (rows : P → List Numbered) (held : Contents P) (front : ℕ) (days : List P)
    → AreFront rows held front days → front ≤ count_of held
front_within rows held front days are = let counted = are.1.counted in omega (arith, are.2)

-- After a swap it stands for the same history.
pub stands_after_swap : {P : Type 0} (rows : P → List Numbered) (held new : Contents P) (front : ℕ) (days : List P)
    → held.settled ≤ front → AreFront rows held front days → new ≡ swapped held front days
    → (history : History) × Stands rows new history
stands_after_swap rows held new front days up (history, stands, within, are) is =
    let same = numbered_batches (take front history) ∙ ap batch_rows (sym (take-map entry_rows front history)) in (
      history,
      subst (λ h. Stands rows h history) (sym is)
          (stands_swapped rows held front days history up within (subst (IsPermutation (flat_map rows days)) (sym same)
          are) stands),
    )

-- ---- refusals

-- Rows that are of one batch have its number.
pub same_number : (rows : List Numbered) (number : ℕ) → All (λ (row : Numbered). row.batch ≡ number) rows
    → rows ≡ with_batch number rows
same_number [] number one = refl
same_number (row ∷ rows) number one =
    let Is : Numbered → Type 0 = λ row. row.batch ≡ number in
    let here : row.batch ≡ number = All-head Is row rows one in
    let renamed : Numbered = record { batch = number; place = row.place; row = row.row } in
    let first : row ≡ renamed = ap (λ (n : ℕ). record { batch = n; place = row.place; row = row.row }) here in
    ap (λ (r : Numbered). r ∷ rows) first
    ∙ ap (λ (rest : List Numbered). renamed ∷ rest) (same_number rows number (All-tail Is row rows one))

-- A part that comes back as it was is refused for memory.
pub refused_as_it_was : {P : Type 0} (rows : P → List Numbered) (prevents : Option CommitFault) (part back : P)
    → AreBatch (rows part) → prevents ≡ None → back ≡ part → IsRefused rows prevents part Memory back
refused_as_it_was {P} rows prevents part back batch none same =
    let one = batch_is_one (rows part) batch in
    subst (λ fault. IsRefused rows fault part Memory back) (sym none)
    (refl, (one.0, ap rows same ∙ same_number (rows part) one.0 one.1))

-- ---- settled batches only

-- There is a history of batches that each have a row.
history_of : (batches : List Batch) → HaveRows batches → (history : History) × (batches_in history ≡ batches)
history_of [] some = ([], refl)
history_of ([] ∷ batches) some = absurd (omega (arith, some.0))
history_of ((row ∷ others) ∷ batches) some =
    let rest = history_of batches some.1 in
    let entry : Entry = record { first = row; others = others; maker = None } in
    (entry ∷ rest.0, ap (λ (l : List Batch). (row ∷ others) ∷ l) rest.1)

-- Each batch of a history has a row.
pub have_rows : (history : History) → HaveRows (batches_in history)
have_rows [] = tt
have_rows (entry ∷ history) = (omega arith, have_rows history)

none_after : (history : History) (n : ℕ) → length history ≡ n → drop n history ≡ []
none_after [] zero all = refl
none_after [] (suc n) all = refl
none_after (entry ∷ history) zero all = absurd (omega (arith, all))
none_after (entry ∷ history) (suc n) all = none_after history n (omega (arith, all))

-- Parts of all batches stand for each history of them.
pub stands_settled : {P : Type 0} (rows : P → List Numbered) (front : ℕ) (days : List P) (held : Contents P)
    → held ≡ settled_only front days → StandsForParts rows front days held
stands_settled rows front days held is history long are = subst (λ h. Stands rows h history) (sym is) record {
  counted = omega (arith, long);
  few = omega arith;
  days = subst (IsPermutation (flat_map rows days))
      (sym (ap numbered (take_all front history (omega (arith, long))) ∙ numbered_batches history)) are;
  unsettled = subst (HoldsEach rows front []) (sym (none_after history front long)) tt;
}

-- So there is one for which they stand.
pub standing_settled : {P : Type 0} (rows : P → List Numbered) (front : ℕ) (days : List P) (held : Contents P)
    → held ≡ settled_only front days → AreWhole rows front days → (history : History) × Stands rows held history
standing_settled rows front days held is (batches, long, some, are) =
    let (history, same) = history_of batches some in (
      history,
      stands_settled rows front days held is history
          (omega (arith, ap length same, length-map history entry_rows, long)) (subst (AreOf rows days) (sym same) are),
    )
