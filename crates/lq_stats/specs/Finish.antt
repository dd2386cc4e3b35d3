-- The records that are made of groups.
use Rattle.std.specs.Prelude.{◌≡◌, ℕ, ◌^◌, ◌&&◌, List, [], ◌∷◌, zip, decimal, ℤ, pos, neg_ℤ, int_le, int_lt}
use Rattle.std.specs.Prelude.{Option, Some, None, Result, Ok, Err, if◌then◌else◌}
use Rattle.std.specs.Borrow.{Bor}
use Rattle.std.specs.Fmt.{signed_decimal}
use Rattle.log_model.specs.Order.{value_cmp}
use Rattle.lq_ast.specs.Grouping.{◌>>=◌, put}
use Rattle.lq_ast.specs.Records.{Record, put_fields}
use Rattle.lq_ast.specs.Stage.{Statistic}
use Rattle.lq_ast.specs.Statistics.{array_text}
use Rattle.lq_ast.specs.Tuples.{Tuple, sorted_by}
use Rattle.lq_tuple.specs.Groups.{group_tuple}
use Rattle.lq_tuple.specs.Texts.{count_of}
use Rattle.lq_tuple.specs.declared.group.Group.{Group}
use Rattle.lq_stats.specs.declared.fault.StatFault.{StatFault}
use Rattle.lq_stats.specs.declared.fault.StatFault.TheVariants.{Overflow, Memory}
use Rattle.lq_stats.specs.declared.groups.States.{States}
use Rattle.lq_stats.specs.declared.measure.Measure.{Measure}
use Rattle.lq_stats.specs.declared.measure.Measure.TheVariants.{Sum, Min, Max, UniqValues}
use Rattle.lq_stats.specs.declared.state.State.{State}
use Rattle.lq_stats.specs.declared.state.State.TheVariants.{Count, CountEmpty, CountUniq, OfValues}

-- empty where there is no sum, and no text where it is not a 64-bit integer
abbrev pub total_text : Option ℤ → Option (List ℕ)
total_text None = Some []
total_text (Some sum) =
    if int_le (neg_ℤ (pos (2 ^ 63))) sum && int_lt sum (pos (2 ^ 63)) then Some (signed_decimal sum) else None

abbrev pub measure_text : Measure → Option (List ℕ)
measure_text (Sum sum) = total_text sum
measure_text (Min least) = Some least
measure_text (Max greatest) = Some greatest
measure_text (UniqValues words) = Some (array_text (sorted_by value_cmp words.words.items))

-- the text of the value that a function has over what its state is of
abbrev pub state_text : State → Option (List ℕ)
state_text (Count number) = Some (decimal number)
state_text (CountEmpty number) = Some (decimal number)
state_text (CountUniq texts) = Some (decimal (count_of texts))
state_text (OfValues measure) = measure_text measure

-- The values are set from left to right. The first that is not a text gives its name.
abbrev pub set_states : List Statistic → List State → Record → Result Record (List ℕ)
set_states [] states r = Ok r
set_states (s ∷ ss) [] r = Ok r
set_states (s ∷ ss) (state ∷ states) r = put s.name r (state_text state) >>= set_states ss states

-- a group's tuple, and what was kept of its records
abbrev pub group_pair : Group (Bor States) → Tuple × States
group_pair group = (group_tuple group, group.kept.now)

-- its record, where the keys have these names
abbrev pub made_record : List (List ℕ) → List Statistic → Group (Bor States) → Result Record (List ℕ)
made_record names statistics group =
    set_states statistics group.kept.now.list.items (put_fields [] (zip names (group_tuple group)))

-- The fault is out of memory, or the first function that is named where there is no record.
abbrev pub IsFault : {A : Type 0} → Result A (List ℕ) → StatFault → Type 0
IsFault outcome (Overflow name) = outcome ≡ Err name
IsFault outcome Memory = Unit {0}
