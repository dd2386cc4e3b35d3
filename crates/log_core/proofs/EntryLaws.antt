-- Laws on the entries for which a shelf stands.
use Rattle.std.proofs.Common.{◌≡◌, ℕ, zero, suc, ◌+◌, ◌-◌, ◌<◌, List, [], ◌∷◌, ◌++◌, length, map, take, drop}
use Rattle.std.proofs.Common.{flat_map, get_or, Contains, refl, sym, ap, subst, ◌∙◌, arith}
use Rattle.std.specs.List.Sorted.{IsPermutation}
use Rattle.std.proofs.lemmas.Bool.Decides.{nat_tests}
use Rattle.std.proofs.lemmas.List.{get_or_default, length-map, map-append, same_lists, take-map, drop-map}
use Rattle.std.proofs.lemmas.List.Elements.{Contains-get_or}
use Rattle.std.proofs.lemmas.List.Sorted.{Contains-permutation, IsPermutation-sym, length_permutation}
use native.Mathlib.Decide.{ℕ_discrete}
use Rattle.log_model.specs.Core.{Contents, HoldsEach, Stands, after, commit, count_of, with_part}
use Rattle.log_model.specs.History.{AreRowsOf, Entry, History, Numbered, batches_in, entry_rows, numbered_after}
use Rattle.log_model.specs.History.{numbered_from, numbered_in, with_batch}
use Rattle.log_model.specs.Row.{Batch, Row}
use Rattle.log_model.proofs.Numbering.{batch_with_number, length_numbered}
use Rattle.turn_lock.specs.declared.view.Entry.{Entry as Made}
use Rattle.turn_lock.specs.Entries.{whats}
use Rattle.log_core.specs.Entries.{batch_of, entry_rows_of, newest_in, nobodys, row_at, rows_from, seen_history}
use Rattle.log_core.specs.Entries.{stands_for}
use Rattle.log_core.specs.declared.entries.EntryRows.{EntryRows}

-- ---- rows in the order of their places

row_here : (q : ℕ) (x : Row) (r : Numbered) (rows : List Numbered) → r.place ≡ q → r.row ≡ x
    → row_at q (r ∷ rows) ≡ x
row_here q x r rows is same = grind (arith, nat_tests)

row_later : (q : ℕ) (x : Row) (r : Numbered) (rows : List Numbered) → Dec (r.place ≡ q) → (r.place ≡ q → r.row ≡ x)
    → row_at q rows ≡ x → row_at q (r ∷ rows) ≡ x
row_later q x r rows (yes is) here later = row_here q x r rows is (here is)
row_later q x r rows (no other) here later = grind (arith, nat_tests)

-- The row at a place, where one has it, and no other row does.
row_found : (q : ℕ) (x : Row) (rows : List Numbered) (k : ℕ) (d : Numbered) → k < length rows
    → (get_or rows k d).place ≡ q
    → ((j : ℕ) → j < length rows → (get_or rows j d).place ≡ q → (get_or rows j d).row ≡ x)
    → row_at q rows ≡ x
row_found q x [] k d below is same = absurd (omega arith)
row_found q x (r ∷ rows) zero d below is same = row_here q x r rows is (same 0 below is)
row_found q x (r ∷ rows) (suc k) d below is same =
    row_later q x r rows (ℕ_discrete r.place q) (λ e. same 0 (omega arith) e)
    (row_found q x rows k d (omega arith) is (λ j b e. same (suc j) (omega arith) e))

numbered-at : (n place : ℕ) (batch : Batch) (k : ℕ) (d : Numbered) → k < length batch
    → get_or (numbered_from n place batch) k d
    ≡ record { batch = n; place = place + k; row = get_or batch k d.row }
numbered-at n place [] k d below = absurd (omega arith)
numbered-at n place (row ∷ rows) zero d below = ap (λ (p : ℕ). record { batch = n; place = p; row = row }) (omega arith)
numbered-at n place (row ∷ rows) (suc k) d below =
    numbered-at n (suc place) rows k d (omega arith)
    ∙ ap (λ (p : ℕ). record { batch = n; place = p; row = get_or rows k d.row }) (omega arith)

-- Of the rows of a batch, the one at a place is that of the batch.
row_of_batch : (rows : List Numbered) (n : ℕ) (batch : Batch) (k : ℕ) (d : Row)
    → IsPermutation rows (numbered_in n batch) → k < length batch → row_at k rows ≡ get_or batch k d
row_of_batch rows n batch k d are below =
    let none : Numbered = record { batch = n; place = k; row = d } in
    let x : Numbered = get_or (numbered_in n batch) k none in
    let here : x ≡ record { batch = n; place = 0 + k; row = get_or batch k d } = numbered-at n 0 batch k none below in
    let inside : k < length (numbered_in n batch) = omega (arith, length_numbered n 0 batch) in
    let found : Contains rows x = Contains-permutation (numbered_in n batch) rows x (IsPermutation-sym rows _ are)
    (Contains-get_or (numbered_in n batch) k none inside) in
    row_found k (get_or batch k d) rows found.0 x found.1
    (ap (λ (r : Numbered). r.place) (found.2 ∙ here) ∙ omega arith) (λ j b is.
    let y : Numbered = get_or rows j x in
    let there : Contains (numbered_in n batch) y = Contains-permutation rows _ y are (Contains-get_or rows j x b) in
    let within : there.0 < length batch = omega (arith, there.1, length_numbered n 0 batch) in
    let that : record { batch = n; place = 0 + there.0; row = get_or batch there.0 y.row } ≡ y =
    sym (numbered-at n 0 batch there.0 y within) ∙ there.2 in
    let place : there.0 ≡ k = omega (arith, ap (λ (r : Numbered). r.place) that, is) in
    sym (ap (λ (r : Numbered). r.row) that) ∙ get_or_default batch there.0 y.row d within
    ∙ ap (λ (p : ℕ). get_or batch p d) place)

rows_from-at : (place count : ℕ) (rows : List Numbered) (k : ℕ) (d : Row) → k < count
    → get_or (rows_from place count rows) k d ≡ row_at (place + k) rows
rows_from-at place zero rows k d below = absurd (omega arith)
rows_from-at place (suc count) rows zero d below = ap (λ (p : ℕ). row_at p rows) (omega arith)
rows_from-at place (suc count) rows (suc k) d below =
    rows_from-at (suc place) count rows k d (omega arith) ∙ ap (λ (p : ℕ). row_at p rows) (omega arith)

length-rows_from : (place count : ℕ) (rows : List Numbered) → length (rows_from place count rows) ≡ count
length-rows_from place zero rows = refl
length-rows_from place (suc count) rows = ap suc (length-rows_from (suc place) count rows)

in_order-at : (rows : List Numbered) (n : ℕ) (batch : Batch) → IsPermutation rows (numbered_in n batch)
    → length rows ≡ length batch → (k : ℕ) (d : Row) → k < length batch
    → get_or (batch_of (entry_rows_of rows)) k d ≡ get_or batch k d
in_order-at rows n batch are long zero d below = row_of_batch rows n batch 0 d are below
in_order-at rows n batch are long (suc k) d below =
    rows_from-at 1 (length rows - 1) rows k d (omega arith) ∙ ap (λ (p : ℕ). row_at p rows) (omega arith)
    ∙ row_of_batch rows n batch (suc k) d are below

-- The rows of a batch, which is in order whatever their order is.
pub in_order : (rows : List Numbered) (batch : Batch) → 0 < length batch → AreRowsOf rows batch
    → batch_of (entry_rows_of rows) ≡ batch
in_order rows batch some are =
    let long : length rows ≡ length batch = omega (
      arith,
      length_permutation rows (numbered_in are.0 batch) are.1,
      length_numbered are.0 0 batch,
    ) in
    let same : length (batch_of (entry_rows_of rows)) ≡ length batch =
    omega (arith, length-rows_from 1 (length rows - 1) rows) in
    same_lists (batch_of (entry_rows_of rows)) batch same
    (λ k d below. in_order-at rows are.0 batch are.1 long k d (omega arith))

-- ---- the makers do not matter

same_first : (x y : Entry) (xs ys : History) → batches_in (x ∷ xs) ≡ batches_in (y ∷ ys)
    → (entry_rows x ≡ entry_rows y) × (batches_in xs ≡ batches_in ys)
same_first x y xs ys same = (ap (λ l. get_or l 0 []) same, ap (drop 1) same)

none_first : {X : Type 0} (y : List Row) (ys : List Batch) → [] ≡ y ∷ ys → X
none_first y ys same =
    let l : length {A = Batch} [] ≡ length (y ∷ ys) = ap length same in absurd (omega arith)

same_numbered : (count : ℕ) (a b : History) → batches_in a ≡ batches_in b
    → numbered_after count a ≡ numbered_after count b
same_numbered count [] [] same = refl
same_numbered count (x ∷ xs) (y ∷ ys) same =
    let both = same_first x y xs ys same in
    ap (λ rows. numbered_in (suc count) rows ++ numbered_after (suc count) xs) both.0
    ∙ ap (λ l. numbered_in (suc count) (entry_rows y) ++ l) (same_numbered (suc count) xs ys both.1)
same_numbered count [] (y ∷ ys) same = none_first (entry_rows y) (batches_in ys) same
same_numbered count (x ∷ xs) [] same = none_first (entry_rows x) (batches_in xs) (sym same)

same_holds : {P : Type 0} (rows : P → List Numbered) (count : ℕ) (parts : List P) (a b : History)
    → batches_in a ≡ batches_in b → HoldsEach rows count parts a → HoldsEach rows count parts b
same_holds rows count [] [] [] same holds = holds
same_holds rows count (part ∷ parts) (x ∷ xs) (y ∷ ys) same holds =
    let both = same_first x y xs ys same in (
      subst (λ batch. IsPermutation (rows part) (numbered_in (suc count) batch)) both.0 holds.0,
      same_holds rows (suc count) parts xs ys both.1 holds.1,
    )
same_holds rows count (part ∷ parts) [] b same holds = absurd holds
same_holds rows count [] (x ∷ xs) b same holds = absurd holds
same_holds rows count parts [] (y ∷ ys) same holds = none_first (entry_rows y) (batches_in ys) same
same_holds rows count parts (x ∷ xs) [] same holds = none_first (entry_rows x) (batches_in xs) (sym same)

-- What stands for a history stands for each one with the same batches.
pub stands_same : {P : Type 0} (rows : P → List Numbered) (held : Contents P) (a b : History)
    → batches_in a ≡ batches_in b → Stands rows held a → Stands rows held b
stands_same rows held a b same stands =
    let n = held.settled in
    let long : length (batches_in a) ≡ length (batches_in b) = ap length same in
    let counted = stands.counted in
    record {
      counted = omega (arith, length-map a entry_rows, length-map b entry_rows);
      few = stands.few;
      days = subst (IsPermutation (flat_map rows held.days)) (same_numbered 0 (take n a) (take n b)
          (sym (take-map entry_rows n a) ∙ ap (take n) same ∙ take-map entry_rows n b)) stands.days;
      unsettled = same_holds rows n held.unsettled (drop n a) (drop n b)
          (sym (drop-map entry_rows n a) ∙ ap (drop n) same ∙ drop-map entry_rows n b) stands.unsettled;
    }

batches_seen : (seen : List (Made EntryRows)) → batches_in (map nobodys (whats seen)) ≡ batches_in (seen_history seen)
batches_seen [] = refl
batches_seen (made ∷ seen) = ap (λ l. batch_of made.what ∷ l) (batches_seen seen)

-- What stands for the entries that were seen stands for the history of them.
pub stands_seen : {P : Type 0} (rows : P → List Numbered) (held : Contents P) (seen : List (Made EntryRows))
    → stands_for rows held (whats seen) → Stands rows held (seen_history seen)
stands_seen rows held seen stands =
    stands_same rows held (map nobodys (whats seen)) (seen_history seen) (batches_seen seen) stands

-- ---- one entry more

newest-push : {P : Type 0} (rows : P → List Numbered) (parts : List P) (part : P)
    → newest_in rows (parts ++ part ∷ []) ≡ entry_rows_of (rows part)
newest-push rows [] part = refl
newest-push rows (p ∷ []) part = refl
newest-push rows (p ∷ q ∷ parts) part = newest-push rows (q ∷ parts) part

-- After a commit the newest entry has the rows of its batch, in order.
pub newest_committed : {P : Type 0} (rows : P → List Numbered) (old new : Contents P) (part kept : P) (number : ℕ)
    (batch : Batch)
    → 0 < length batch → AreRowsOf (rows part) batch → new ≡ with_part old kept
    → rows kept ≡ with_batch number (rows part) → batch_of (newest_in rows new.unsettled) ≡ batch
newest_committed {P} rows old new part kept number batch some are is same =
    ap (λ (held : Contents P). batch_of (newest_in rows held.unsettled)) is
    ∙ ap batch_of (newest-push rows old.unsettled kept)
    ∙ in_order (rows kept) batch some (
      number,
      subst (λ list. IsPermutation list (numbered_in number batch)) (sym same)
          (batch_with_number number (rows part) batch are),
    )

-- So what stood for these entries stands for one more, which is the newest.
pub stands_newest : {P : Type 0} (rows : P → List Numbered) (old new : Contents P) (part : P) (batch : Batch)
    (entries : List EntryRows)
    → AreRowsOf (rows part) batch → batch_of (newest_in rows new.unsettled) ≡ batch
    → ((history : History) (entry : Entry) → AreRowsOf (rows part) (entry_rows entry) → Stands rows old history
    → Stands rows new (after history (commit entry)))
    → stands_for rows old entries → stands_for rows new (entries ++ newest_in rows new.unsettled ∷ [])
stands_newest rows old new part batch entries are newest commits stands =
    let entry = newest_in rows new.unsettled in
    subst (Stands rows new) (sym (map-append nobodys entries (entry ∷ [])))
    (commits (map nobodys entries) (nobodys entry) (subst (AreRowsOf (rows part)) (sym newest) are) stands)

-- There are as many entries as are counted.
pub counted_entries : {P : Type 0} (rows : P → List Numbered) (held : Contents P) (entries : List EntryRows)
    → stands_for rows held entries → count_of held ≡ length entries
counted_entries rows held entries stands = let counted = stands.counted in omega (arith, length-map entries nobodys)
