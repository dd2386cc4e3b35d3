-- What a function has kept of some values.
use Rattle.std.specs.Prelude.{◌≡◌, ℕ, not, ◌||◌, List, [], ◌∷◌, filter, filter_map, ℤ, pos, ◌+ℤ◌, Option, Some, None}
use Rattle.std.specs.Prelude.{unwrap_or, if◌then◌else◌, neg_ℤ, ◌-◌, ◌^◌, int_le, int_lt, ◌+◌, ◌<◌, ◌++◌, length}
use Rattle.std.specs.Option.{option_map_or}
use Rattle.std.specs.Ordering.{is_lt, is_gt}
use Rattle.log_model.specs.Field.{is_empty}
use Rattle.log_model.specs.Order.{number_of, value_cmp}
use Rattle.lq_ast.specs.Statistics.{first_text, last_text, total}
use Rattle.lq_ast.specs.Tuples.{sorted_by}
use Rattle.lq_ast.specs.declared.pipe.Call.{Call}
use Rattle.lq_ast.specs.declared.pipe.Call.TheVariants as call
use Rattle.lq_stats.specs.Words.{AreWords}
use Rattle.lq_stats.specs.declared.measure.Measure.{Measure}
use Rattle.lq_stats.specs.declared.measure.Measure.TheVariants.{Sum, Min, Max, UniqValues}

-- the function whose state it is
abbrev pub measure_call : Measure → Call
measure_call (Sum sum) = call.Sum
measure_call (Min least) = call.Min
measure_call (Max greatest) = call.Max
measure_call (UniqValues words) = call.UniqValues

-- the sum of some numbers, if there are any
abbrev pub sum_of : List ℤ → Option ℤ
sum_of [] = None
sum_of (n ∷ ns) = Some (total (n ∷ ns))

abbrev pub are_filled : List (List ℕ) → List (List ℕ)
are_filled values = filter (λ value. not (is_empty value)) values

-- The state is what the function keeps of these values.
abbrev pub AreMeasured : Measure → List (List ℕ) → Type 0
AreMeasured (Sum sum) values = sum ≡ sum_of (filter_map number_of values)
AreMeasured (Min least) values = least ≡ first_text (sorted_by value_cmp (are_filled values))
AreMeasured (Max greatest) values = greatest ≡ last_text (sorted_by value_cmp (are_filled values))
AreMeasured (UniqValues words) values = AreWords words (are_filled values)

-- ---- one more value

-- at most the greatest, and at least the least 128-bit integer
abbrev pub within_128 : ℤ → ℤ
within_128 n =
    if int_lt n (neg_ℤ (pos (2 ^ 127))) then neg_ℤ (pos (2 ^ 127))
    else (if int_le (pos (2 ^ 127)) n then pos (2 ^ 127 - 1) else n)

-- a sum with the number that one more value says, if it says one
abbrev pub with_number : Option ℤ → List ℕ → Option ℤ
with_number sum value =
    option_map_or (λ n. Some (within_128 (unwrap_or sum (pos 0) +ℤ n))) (number_of value) sum

abbrev pub lesser : List ℕ → List ℕ → List ℕ
lesser least value =
    if is_empty value then least
    else (if is_empty least || is_lt (value_cmp value least) then value else least)

abbrev pub greater : List ℕ → List ℕ → List ℕ
greater greatest value =
    if is_empty value then greatest
    else (if is_empty greatest || is_gt (value_cmp value greatest) then value else greatest)

-- ---- the values of two lists

-- a sum with another, where either may be of no numbers
abbrev pub with_sum : Option ℤ → Option ℤ → Option ℤ
with_sum sum more = option_map_or (λ n. Some (within_128 (unwrap_or sum (pos 0) +ℤ n))) more sum

-- The new state is what the function keeps of both lists of values, if these are fewer than 2^64.
abbrev pub JoinsValues : Measure → Measure → Measure → Type 0
JoinsValues old other new =
    (values more : List (List ℕ)) → length values + length more < 2 ^ 64 → AreMeasured old values
    → AreMeasured other more → AreMeasured new (values ++ more)
