-- What parts hold together is all rows of the history, and these have one order.
use Rattle.std.proofs.Common.{◌≡◌, ℕ, zero, suc, ◌+◌, ◌-◌, ◌<◌, ◌≤◌, List, [], ◌∷◌, ◌++◌, length, take, drop, inl, inr, refl, sym, ap, subst, ◌∙◌, arith, flat_map, append_assoc}
use Rattle.std.proofs.lemmas.Grind.{flat_map-append}
use Rattle.std.proofs.lemmas.List.Sorted.{IsPermutation-append, IsPermutation-refl}
use Rattle.std.specs.List.{AllByRecursion}
use Rattle.std.specs.List.Sorted.{IsPermutation}
use Rattle.log_model.specs.Batches.{AreOf, AreRising, IsBefore, batch_rows, batch_rows_after}
use Rattle.log_model.specs.Core.{Contents, HoldsEach, Stands, parts_of, swapped}
use Rattle.log_model.specs.History.{History, Numbered, batches_in, entry_rows, numbered, numbered_after, numbered_from, numbered_in}
use Rattle.log_model.specs.Row.{Batch, Row}

-- ---- entries and batches

numbered_after_batches : (count : ℕ) (history : History)
    → numbered_after count history ≡ batch_rows_after count (batches_in history)
numbered_after_batches count [] = refl
numbered_after_batches count (entry ∷ entries) =
    ap (λ rows. numbered_in (suc count) (entry_rows entry) ++ rows) (numbered_after_batches (suc count) entries)

-- The rows of a history are those of its batches.
pub numbered_batches : (history : History) → numbered history ≡ batch_rows (batches_in history)
numbered_batches history = numbered_after_batches 0 history

-- ---- the order of rows

all_append : (P : Numbered → Type 0) (xs ys : List Numbered) → AllByRecursion P xs → AllByRecursion P ys
    → AllByRecursion P (xs ++ ys)
all_append P [] ys all more = more
all_append P (x ∷ xs) ys all more = (all.0, all_append P xs ys all.1 more)

all_from : (P : Numbered → Type 0) (batch place : ℕ) (rows : List Row)
    → ((k : ℕ) (row : Row) → place ≤ k → P (record { batch = batch; place = k; row = row }))
    → AllByRecursion P (numbered_from batch place rows)
all_from P batch place [] each = tt
all_from P batch place (row ∷ rows) each = (
  each place row (omega arith),
  all_from P batch (suc place) rows (λ k r from. each k r (omega arith)),
)

pub all_after : (P : Numbered → Type 0) (count : ℕ) (batches : List Batch)
    → ((n k : ℕ) (row : Row) → count < n → P (record { batch = n; place = k; row = row }))
    → AllByRecursion P (batch_rows_after count batches)
all_after P count [] each = tt
all_after P count (batch ∷ batches) each =
    all_append P (numbered_in (suc count) batch) (batch_rows_after (suc count) batches)
    (all_from P (suc count) 0 batch (λ k row from. each (suc count) k row (omega arith)))
    (all_after P (suc count) batches (λ n k row after. each n k row (omega arith)))

-- the rows of a batch, and then rows of later batches
rising_then : (batch place : ℕ) (rows : List Row) (later : List Numbered)
    → ((k : ℕ) (row : Row) → AllByRecursion (IsBefore (record { batch = batch; place = k; row = row })) later)
    → AreRising later → AreRising (numbered_from batch place rows ++ later)
rising_then batch place [] later before rising = rising
rising_then batch place (row ∷ rows) later before rising = (
  all_append (IsBefore (record { batch = batch; place = place; row = row })) (numbered_from batch (suc place) rows) later
      (all_from (IsBefore (record { batch = batch; place = place; row = row })) batch (suc place) rows
      (λ k r from. inr (refl, omega arith))) (before place row),
  rising_then batch (suc place) rows later before rising,
)

rising_after : (count : ℕ) (batches : List Batch) → AreRising (batch_rows_after count batches)
rising_after count [] = tt
rising_after count (batch ∷ batches) =
    rising_then (suc count) 0 batch (batch_rows_after (suc count) batches)
    (λ k row. all_after (IsBefore (record { batch = suc count; place = k; row = row })) (suc count) batches
    (λ n j other after. inl after)) (rising_after (suc count) batches)

-- The rows of a history are strictly ordered by batch and place.
pub numbered_rising : (history : History) → AreRising (numbered history)
numbered_rising history = subst AreRising (sym (numbered_batches history)) (rising_after 0 (batches_in history))

-- ---- lists

same_drop : {X : Type 0} (a b : ℕ) (xs : List X) → a ≡ b → drop a xs ≡ drop b xs
same_drop a b xs same = ap (λ n. drop n xs) same

abbrev no_items : {X : Type 0} → List X
no_items = []

drop_none : {X : Type 0} (n : ℕ) → drop n (no_items {X = X}) ≡ []
drop_none zero = refl
drop_none (suc n) = refl

drop_drop : {X : Type 0} (a b : ℕ) (xs : List X) → drop a (drop b xs) ≡ drop (b + a) xs
drop_drop a zero xs = same_drop a (0 + a) xs (omega arith)
drop_drop zero (suc b) [] = sym (drop_none (suc b + zero))
drop_drop (suc a) (suc b) [] = sym (drop_none (suc b + suc a))
drop_drop a (suc b) (x ∷ xs) = drop_drop a b xs ∙ same_drop (suc (b + a)) (suc b + a) (x ∷ xs) (omega arith)

length_drop : {X : Type 0} (k : ℕ) (xs : List X) → length (drop k xs) ≡ length xs - k
length_drop zero xs = omega arith
length_drop (suc k) [] = omega arith
length_drop (suc k) (x ∷ xs) = length_drop k xs ∙ omega arith

take_and_drop : {X : Type 0} (k : ℕ) (xs : List X) → take k xs ++ drop k xs ≡ xs
take_and_drop zero xs = refl
take_and_drop (suc k) [] = refl
take_and_drop (suc k) (x ∷ xs) = ap (λ ys. x ∷ ys) (take_and_drop k xs)

length_take : {X : Type 0} (k : ℕ) (xs : List X) → k ≤ length xs → length (take k xs) ≡ k
length_take zero xs few = refl
length_take (suc k) [] few = absurd (omega arith)
length_take (suc k) (x ∷ xs) few = ap suc (length_take k xs (omega arith))

-- ---- swaps

-- the parts after the first k
HoldsEach-drop : {P : Type 0} (rows : P → List Numbered) (k n : ℕ) (parts : List P) (entries : History)
    → k ≤ length parts → HoldsEach rows n parts entries → HoldsEach rows (n + k) (drop k parts) (drop k entries)
HoldsEach-drop rows zero n parts entries few h = subst (λ m. HoldsEach rows m parts entries) (omega arith) h
HoldsEach-drop rows (suc k) n [] entries few h = absurd (omega arith)
HoldsEach-drop rows (suc k) n (p ∷ ps) [] few h = absurd h
HoldsEach-drop rows (suc k) n (p ∷ ps) (x ∷ xs) few h =
    subst (λ m. HoldsEach rows m (drop k ps) (drop k xs)) (omega arith)
    (HoldsEach-drop rows k (suc n) ps xs (omega arith) h.1)

-- A swap stands for the same history.
pub stands_swapped : {P : Type 0} (rows : P → List Numbered) (held : Contents P) (front : ℕ) (days : List P)
    (history : History)
    → held.settled ≤ front → front ≤ length history → IsPermutation (flat_map rows days) (numbered (take front history))
    → Stands rows held history → Stands rows (swapped held front days) history
stands_swapped rows held front days history up within are stands =
    let k : ℕ = front - held.settled in
    let front_is : held.settled + k ≡ front = omega arith in
    let short : k ≤ length held.unsettled = omega (arith, stands.counted) in
    let left : length (drop k held.unsettled) ≡ length held.unsettled - k = length_drop k held.unsettled in
    record {
      counted = omega (arith, stands.counted, left, short);
      few = omega (arith, stands.few, left);
      days = are;
      unsettled = subst (λ entries. HoldsEach rows front (drop k held.unsettled) entries)
          (drop_drop k held.settled history ∙ ap (λ n. drop n history) front_is)
          (subst (λ n. HoldsEach rows n (drop k held.unsettled) (drop k (drop held.settled history))) front_is
          (HoldsEach-drop rows k held.settled held.unsettled (drop held.settled history) short stands.unsettled));
    }

-- ---- all rows

-- the rows of parts that each hold an entry
each_joined : {P : Type 0} (rows : P → List Numbered) (n : ℕ) (parts : List P) (entries : History)
    → HoldsEach rows n parts entries → IsPermutation (flat_map rows parts) (numbered_after n entries)
each_joined rows n [] [] h = IsPermutation-refl []
each_joined rows n (p ∷ ps) (x ∷ xs) h =
    IsPermutation-append (rows p) (numbered_in (suc n) (entry_rows x)) (flat_map rows ps) (numbered_after (suc n) xs) h.0
    (each_joined rows (suc n) ps xs h.1)
each_joined rows n [] (x ∷ xs) h = absurd h
each_joined rows n (p ∷ ps) [] h = absurd h

numbered_append : (n : ℕ) (xs ys : History)
    → numbered_after n (xs ++ ys) ≡ numbered_after n xs ++ numbered_after (n + length xs) ys
numbered_append n [] ys = ap (λ m. numbered_after m ys) (omega arith)
numbered_append n (x ∷ xs) ys =
    ap (λ rows. numbered_in (suc n) (entry_rows x) ++ rows) (numbered_append (suc n) xs ys
    ∙ ap (λ m. numbered_after (suc n) xs ++ numbered_after m ys) (omega arith))
    ∙ sym (append_assoc (numbered_in (suc n) (entry_rows x)) (numbered_after (suc n) xs)
    (numbered_after (n + length (x ∷ xs)) ys))

-- Together the parts hold the rows of the history, each once.
pub parts_joined : {P : Type 0} (rows : P → List Numbered) (held : Contents P) (history : History)
    → Stands rows held history → IsPermutation (flat_map rows (parts_of held)) (numbered history)
parts_joined rows held history stands =
    let settled : held.settled ≤ length history = omega (arith, stands.counted) in
    let long : 0 + length (take held.settled history) ≡ held.settled =
    omega (arith, length_take held.settled history settled) in
    subst (λ all. IsPermutation all (numbered history)) (sym (flat_map-append rows held.days held.unsettled))
    (subst (IsPermutation (flat_map rows held.days ++ flat_map rows held.unsettled))
    (sym (numbered_append 0 (take held.settled history) (drop held.settled history)
    ∙ ap (λ m. numbered (take held.settled history) ++ numbered_after m (drop held.settled history)) long)
    ∙ ap numbered (take_and_drop held.settled history))
    (IsPermutation-append (flat_map rows held.days) (numbered (take held.settled history))
    (flat_map rows held.unsettled) (numbered_after held.settled (drop held.settled history)) stands.days
    (each_joined rows held.settled held.unsettled (drop held.settled history) stands.unsettled)))

-- So they hold the rows of its batches.
pub parts_are_of : {P : Type 0} (rows : P → List Numbered) (held : Contents P) (history : History)
    → Stands rows held history → AreOf rows (parts_of held) (batches_in history)
parts_are_of rows held history stands =
    subst (IsPermutation (flat_map rows (parts_of held))) (numbered_batches history)
    (parts_joined rows held history stands)
