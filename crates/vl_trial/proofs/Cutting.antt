-- Rows in pieces of a thousand, and those that are left.
use Rattle.std.proofs.Common.{◌≡◌, ℕ, zero, suc, ◌+◌, ◌-◌, ◌*◌, ◌/◌, ◌<◌, ◌≤◌, min, List, [], ◌∷◌, ◌++◌, length, map}
use Rattle.std.proofs.Common.{take, drop, get_or, ◌^◌, None, refl, sym, ap, ◌∙◌, arith, flat_map}
use Rattle.std.proofs.lemmas.List.{drop-drop, drop_min, get_or-drop, length-drop, same_lists, take-append-drop}
use Rattle.std.proofs.lemmas.List.{take_min}
use Rattle.std.proofs.lemmas.List.{nil_from_length}
use Rattle.std.proofs.lemmas.List.FromFn.{get_or-map-range_with_len, length-map-range_with_len, take-map-range_with_len}
use Rattle.std.proofs.lemmas.List.FromFn.{map-range_with_len_more}
use Rattle.std.proofs.lemmas.Bool.{le-ltb}
use Rattle.std.proofs.lemmas.List.Sums.{sum_by-le}
use Rattle.std.specs.Fork.{slice_chunk}
use Rattle.std.specs.List.{All, range_with_len}
use Rattle.log_model.specs.Field.{weight}
use Rattle.log_model.specs.Row.{Row, batch_weight}
use Rattle.vl_row.specs.Faults.{batch_fault}
use Rattle.vl_trial.proofs.Drawing.{weight_small}
use Rattle.vl_trial.specs.Left.{batches_from, rows_from}
use Rattle.vl_trial.specs.Trial.{drawn, in_thousands, next_state, row_of, state_at, trial_batches, trial_row}
use Rattle.vl_trial.specs.Trial.{trial_rows}

-- ---- pieces

map_shifted : {X : Type 0} (f : ℕ → X) (a n : ℕ)
    → map f (range_with_len (a + 1) n) ≡ map (λ k. f (k + 1)) (range_with_len a n)
map_shifted f a zero = refl
map_shifted f a (suc n) = ap (λ xs. f (a + 1) ∷ xs) (map_shifted f (a + 1) n)

map_same : {X : Type 0} (f g : ℕ → X) (a n : ℕ) → ((k : ℕ) → f k ≡ g k)
    → map f (range_with_len a n) ≡ map g (range_with_len a n)
map_same f g a zero same = refl
map_same f g a (suc n) same = (λ i. same a i ∷ map_same f g (a + 1) n same i)

later_chunk : (rows : List Row) (k : ℕ) → slice_chunk rows 1000 (k + 1) ≡ slice_chunk (drop 1000 rows) 1000 k
later_chunk rows k =
    let place : (k + 1) * 1000 ≡ 1000 + k * 1000 = omega arith in
    ap (λ (n : ℕ). take 1000 (drop n rows)) place ∙ ap (take 1000) (sym (drop-drop (k * 1000) 1000 rows))

pieces_more : (n : ℕ) → 0 < n → (n + 999) / 1000 ≡ suc ((n - 1000 + 999) / 1000)
pieces_more n some = omega arith

cut_first : (rows : List Row) → 0 < length rows
    → in_thousands rows ≡ take 1000 rows ∷ in_thousands (drop 1000 rows)
unfolding in_thousands
cut_first rows some =
    let count = (length (drop 1000 rows) + 999) / 1000 in
    let more : (length rows + 999) / 1000 ≡ suc count =
    pieces_more (length rows) some ∙ ap (λ (n : ℕ). suc ((n + 999) / 1000)) (sym (length-drop 1000 rows)) in
    ap (λ (n : ℕ). map (slice_chunk rows 1000) (range_with_len 0 n)) more
    ∙ ap (λ batches. take 1000 rows ∷ batches)
    (map_shifted (slice_chunk rows 1000) 0 count
    ∙ map_same _ (slice_chunk (drop 1000 rows) 1000) 0 count (later_chunk rows))

cut_none : in_thousands [] ≡ []
unfolding in_thousands
cut_none = refl

pub length-in_thousands : (rows : List Row) → length (in_thousands rows) ≡ (length rows + 999) / 1000
unfolding in_thousands
length-in_thousands rows = length-map-range_with_len (slice_chunk rows 1000) 0 ((length rows + 999) / 1000)

joined_upto : (most : ℕ) (rows : List Row) → length rows ≤ most → flat_map (λ batch. batch) (in_thousands rows) ≡ rows
joined_upto most [] small = ap (flat_map (λ batch. batch)) cut_none
joined_upto zero (row ∷ rows) small = absurd (omega arith)
joined_upto (suc most) (row ∷ rows) small =
    let all = row ∷ rows in
    ap (flat_map (λ batch. batch)) (cut_first all (omega arith))
    ∙ ap (λ later. take 1000 all ++ later) (joined_upto most (drop 1000 all) (omega (arith, length-drop 1000 all)))
    ∙ take-append-drop 1000 all

-- the pieces together are the rows
pub joined : (rows : List Row) → flat_map (λ batch. batch) (in_thousands rows) ≡ rows
joined rows = joined_upto (length rows) rows (omega arith)

-- ---- rows that are left

state_later : (state n k : ℕ) → state_at (state_at state n) k ≡ state_at state (n + k)
unfolding state_at
state_later state n zero = let same : n ≡ n + 0 = omega arith in ap (state_at state) same
state_later state n (suc k) =
    let same : suc (n + k) ≡ n + suc k = omega arith in ap next_state (state_later state n k) ∙ ap (state_at state) same

length-rows_from : (state first count : ℕ) → length (rows_from state first count) ≡ count
unfolding rows_from
length-rows_from state first count = length-map-range_with_len _ 0 count

take_left : (state first count k : ℕ) → k ≤ count → take k (rows_from state first count) ≡ rows_from state first k
unfolding rows_from
take_left state first count k small = take-map-range_with_len _ 0 count k small

row_at : (state first count k : ℕ) (d : Row) → k < count
    → get_or (rows_from state first count) k d ≡ row_of (first + k) (drawn (state_at state (suc k)))
unfolding rows_from
row_at state first count k d inside = get_or-map-range_with_len _ 0 count k k d inside (omega arith)

-- the row of a number does not depend on where one starts to count
row_later : (state first n k : ℕ)
    → row_of (first + (n + k)) (drawn (state_at state (suc (n + k))))
    ≡ row_of (first + n + k) (drawn (state_at (state_at state n) (suc k)))
row_later state first n k =
    let place : first + (n + k) ≡ first + n + k = omega arith in
    let step : suc (n + k) ≡ n + suc k = omega arith in
    let steps = ap (state_at state) step ∙ sym (state_later state n (suc k)) in
    λ i. row_of (place i) (drawn (steps i))

drop_left : (state first n count : ℕ)
    → drop n (rows_from state first (n + count)) ≡ rows_from (state_at state n) (first + n) count
drop_left state first n count =
    let all = rows_from state first (n + count) in
    let later = rows_from (state_at state n) (first + n) count in
    let whole = length-rows_from state first (n + count) in
    same_lists (drop n all) later
    (omega (arith, length-drop n all, length-rows_from (state_at state n) (first + n) count))
    (λ k d inside. get_or-drop n all k d
    ∙ row_at state first (n + count) (n + k) d (omega (arith, length-drop n all))
    ∙ row_later state first n k
    ∙ sym (row_at (state_at state n) (first + n) count k d (omega (arith, length-drop n all))))

-- The rows that are left are cut into a piece and the rest.
first_piece : (state first count n : ℕ) → 0 < count → n ≡ min count 1000
    → batches_from state first count ≡ rows_from state first n ∷ batches_from (state_at state n) (first + n) (count - n)
first_piece state first count n some is =
    let all = rows_from state first count in
    let whole : count ≡ n + (count - n) = omega arith in
    let most : min 1000 (length all) ≡ n = omega (arith, length-rows_from state first count) in
    let front : take 1000 all ≡ rows_from state first n =
    sym (take_min 1000 all) ∙ ap (λ (k : ℕ). take k all) most ∙ take_left state first count n (omega arith) in
    let behind : drop 1000 all ≡ rows_from (state_at state n) (first + n) (count - n) =
    sym (drop_min 1000 all) ∙ ap (λ (k : ℕ). drop k all) most
    ∙ ap (λ (k : ℕ). drop n (rows_from state first k)) whole ∙ drop_left state first n (count - n) in
    cut_first all (omega (arith, length-rows_from state first count))
    ∙ (λ i. front i ∷ in_thousands (behind i))

-- the same where this many rows are all
pub next_piece : (state next rows n : ℕ) → next < rows → n ≡ min (rows - next) 1000
    → batches_from state next (rows - next)
    ≡ rows_from state next n ∷ batches_from (state_at state n) (next + n) (rows - (next + n))
next_piece state next rows n some is =
    let behind : rows - next - n ≡ rows - (next + n) = omega arith in
    first_piece state next (rows - next) n (omega arith) is
    ∙ ap (λ (count : ℕ). rows_from state next n ∷ batches_from (state_at state n) (next + n) count) behind

-- ---- the beginning

trial_left : (seed rows : ℕ) → rows_from seed 0 rows ≡ trial_rows seed rows
unfolding rows_from trial_rows trial_row
trial_left seed rows =
    map_same _ _ 0 rows
    (λ k. let same : 0 + k ≡ k = omega arith in ap (λ n. row_of n (drawn (state_at seed (suc k)))) same)

pub batches_at_first : (seed rows : ℕ) → batches_from seed 0 (rows - 0) ≡ trial_batches seed rows
unfolding trial_batches
batches_at_first seed rows =
    let same : rows - 0 ≡ rows = omega arith in
    ap (batches_from seed 0) same ∙ ap in_thousands (trial_left seed rows)

pub all_rows : (seed rows : ℕ) → flat_map (λ batch. batch) (batches_from seed 0 (rows - 0)) ≡ trial_rows seed rows
unfolding trial_batches
all_rows seed rows = ap (flat_map (λ batch. batch)) (batches_at_first seed rows) ∙ joined (trial_rows seed rows)

pub few_batches : (seed rows : ℕ) → rows ≤ 1_000_000 → length (batches_from seed 0 (rows - 0)) ≤ 1000
few_batches seed rows few =
    omega (arith, length-in_thousands (rows_from seed 0 (rows - 0)), length-rows_from seed 0 (rows - 0))

-- ---- the end

pub none_left : (state first count : ℕ) → count ≡ 0 → batches_from state first count ≡ []
none_left state first count none =
    ap in_thousands (nil_from_length (rows_from state first count) (length-rows_from state first count ∙ none))
    ∙ cut_none

-- ---- one row more

pub no_rows : (state first : ℕ) → rows_from state first 0 ≡ []
no_rows state first = nil_from_length (rows_from state first 0) (length-rows_from state first 0)

pub no_steps : (state : ℕ) → state ≡ state_at state 0
unfolding state_at
no_steps state = refl

row_more : (state first count : ℕ)
    → rows_from state first (count + 1)
    ≡ rows_from state first count ++ row_of (first + count) (drawn (next_state (state_at state count))) ∷ []
unfolding rows_from state_at
row_more state first count = map-range_with_len_more _ 0 count count (omega arith)

state_more : (state count : ℕ) → state_at state (count + 1) ≡ next_state (state_at state count)
unfolding state_at
state_more state count = let same : count + 1 ≡ suc count = omega arith in ap (state_at state) same

-- what a loop has made at this number, and one row more
pub rows_more : (state first number : ℕ) → first ≤ number
    → rows_from state first (number + 1 - first)
    ≡ rows_from state first (number - first)
    ++ row_of number (drawn (next_state (state_at state (number - first)))) ∷ []
rows_more state first number behind =
    let count : number + 1 - first ≡ number - first + 1 = omega arith in
    let place : first + (number - first) ≡ number = omega arith in
    let state_then = state_at state (number - first) in
    ap (rows_from state first) count ∙ row_more state first (number - first)
    ∙ ap (λ (n : ℕ). rows_from state first (number - first) ++ row_of n (drawn (next_state state_then)) ∷ []) place

pub state_next : (state first number : ℕ) → first ≤ number
    → state_at state (number + 1 - first) ≡ next_state (state_at state (number - first))
state_next state first number behind =
    let count : number + 1 - first ≡ number - first + 1 = omega arith in
    ap (state_at state) count ∙ state_more state (number - first)

-- ---- nothing is wrong with the rows of a piece

row_light : (number draw : ℕ) → number < 2 ^ 64 → weight (row_of number draw).fields ≤ 100
unfolding row_of
row_light number draw small = weight_small number draw small

all_light : (state first count : ℕ) → first + count ≤ 1_000_000
    → All (λ row. weight row.fields ≤ 100) (rows_from state first count)
all_light state first count few = λ k d inside.
    let within : k < count = omega (arith, length-rows_from state first count) in
    rw (row_at state first count k d within) (row_light (first + k) (drawn (state_at state (suc k))) (omega arith))

pub piece_faultless : (state first count : ℕ) → 0 < count → count ≤ 1000 → first + count ≤ 1_000_000
    → batch_fault (rows_from state first count) ≡ None
piece_faultless state first count some piece few =
    let rows = rows_from state first count in
    let long = length-rows_from state first count in
    let light : batch_weight rows ≤ length rows * 100 =
    sum_by-le (λ row. weight row.fields) 100 rows (all_light state first count few) in
    rw (le-ltb (length rows) 1 (omega arith), le-ltb 67_108_864 (batch_weight rows) (omega arith)) refl
