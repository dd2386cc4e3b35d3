-- The rows of a trial have small numbers.
use Rattle.std.proofs.Common.{◌≡◌, ℕ, zero, suc, ◌+◌, List, [], ◌∷◌, length, map, codes, decimal}
use Rattle.std.proofs.Common.{pos, Some, inl, inr, refl, arith}
use Rattle.std.proofs.lemmas.Int.{ints}
use Rattle.std.proofs.lemmas.List.FromFn.{length-map-range_with_len}
use Rattle.std.specs.List.{AllByRecursion, range_with_len}
use Rattle.log_model.proofs.ValueOrder.{number_of-is}
use Rattle.log_model.specs.Field.{field_value, set_field}
use Rattle.log_model.specs.Order.{number_of}
use Rattle.log_model.specs.Row.{record_of}
use Rattle.lq_ast.specs.Question.{Question}
use Rattle.lq_ast.specs.Stage.{Grouping, stats}
use Rattle.vl_trial.specs.Trial.{drawn, fields_of, millis_of, row_of, state_at, trial_row, trial_rows}
use Rattle.vl_trial.specs.Questions.{all_counted, errors_by_app, slow_counted, trial_questions}
use Rattle.vl_trial.specs.Safety.{AlwaysEvaluates, CountsAndSums, IsCountOrSum, IsUpTo}
use Rattle.vl_trial.proofs.Safe.{has_records}

-- Setting the computed fields leaves `ms` as it is.
others_set : (number draw : ℕ) (stream id time : List ℕ)
    → let with_stream = set_field (fields_of number draw) (codes "_stream") stream in
    let with_id = set_field with_stream (codes "_stream_id") id in
    field_value (set_field with_id (codes "_time") time) (codes "ms") ≡ decimal (millis_of draw)
unfolding fields_of
others_set number draw [] [] [] = refl
others_set number draw [] [] (t ∷ time) = refl
others_set number draw [] (i ∷ id) [] = refl
others_set number draw [] (i ∷ id) (t ∷ time) = refl
others_set number draw (s ∷ stream) [] [] = refl
others_set number draw (s ∷ stream) [] (t ∷ time) = refl
others_set number draw (s ∷ stream) (i ∷ id) [] = refl
others_set number draw (s ∷ stream) (i ∷ id) (t ∷ time) = refl

millis_value : (number draw : ℕ) → field_value (record_of (row_of number draw)) (codes "ms") ≡ decimal (millis_of draw)
unfolding row_of
millis_value number draw = others_set number draw _ _ _

millis_number : (draw : ℕ) → number_of (decimal (millis_of draw)) ≡ Some (pos (millis_of draw))
millis_number draw =
    number_of-is (decimal (millis_of draw)) (pos (millis_of draw))
    (record { spelled = refl; fits = omega (arith, ints) })

row_small : (number draw : ℕ) → IsUpTo 1000 (codes "ms") (row_of number draw)
row_small number draw =
    rw (millis_value number draw, millis_number draw) (omega (arith, ints), omega (arith, ints))

rows_small : (seed first count : ℕ)
    → AllByRecursion (IsUpTo 1000 (codes "ms")) (map (trial_row seed) (range_with_len first count))
unfolding trial_row
rows_small seed first zero = tt
rows_small seed first (suc count) =
    (row_small first (drawn (state_at seed (suc first))), rows_small seed (first + 1) count)

length-trial_rows : (seed rows : ℕ) → length (trial_rows seed rows) ≡ rows
unfolding trial_rows
length-trial_rows seed rows = length-map-range_with_len (trial_row seed) 0 rows

all_small : (seed rows : ℕ) → AllByRecursion (IsUpTo 1000 (codes "ms")) (trial_rows seed rows)
unfolding trial_rows
all_small seed rows = rows_small seed 0 rows

pub always_has_records : (asked : Question) → CountsAndSums (codes "ms") asked → AlwaysEvaluates asked
always_has_records asked counts now seed rows few =
    let long = length-trial_rows seed rows in
    has_records (codes "ms") asked now 1000 (trial_rows seed rows) counts (all_small seed rows) (omega arith)
    (omega arith)

-- ---- the three questions

plain : (asked : Question) (grouping : Grouping) → asked.stages ≡ stats grouping ∷ []
    → AllByRecursion (IsCountOrSum (codes "ms")) grouping.statistics → CountsAndSums (codes "ms") asked
plain asked grouping stages functions = record { grouping = grouping; stages = stages; functions = functions }

pub alike : AllByRecursion (CountsAndSums (codes "ms")) trial_questions
alike =
    let first = plain all_counted _ refl (inl refl, tt) in
    let second = plain errors_by_app _ refl (inl refl, (inr (refl, refl), tt)) in
    let third = plain slow_counted _ refl (inl refl, tt) in
    (first, (second, (third, tt)))

pub questions_have_records : AllByRecursion AlwaysEvaluates trial_questions
questions_have_records =
    let first = always_has_records all_counted alike.0 in
    let second = always_has_records errors_by_app alike.1.0 in
    let third = always_has_records slow_counted alike.1.1.0 in
    (first, (second, (third, tt)))
