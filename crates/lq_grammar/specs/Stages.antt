-- The values of pipes, and of whole queries.
use Rattle.std.specs.Prelude.{ℕ, Bool, true, false, not, List, ◌++◌, map, codes, ℤ, pos, int_lt, Option, Some, None}
use Rattle.std.specs.Prelude.{Result, Ok, Err, if◌then◌else◌}
use Rattle.std.specs.List.{join_with_byte}
use Rattle.time_text.specs.declared.fault.DurationFault.{DurationFault}
use Rattle.lq_ast.specs.declared.pipe.Call.{Call}
use Rattle.lq_ast.specs.declared.pipe.Call.TheVariants.{Count, CountEmpty, CountUniq, Sum, Min, Max, UniqValues}
use Rattle.lq_ast.specs.Condition.{Condition}
use Rattle.lq_ast.specs.Question.{Question}
use Rattle.lq_ast.specs.Stage.{GroupBy, SortBy, Stage, Statistic}
use Rattle.lq_ast.specs.Stage as is
use Rattle.lq_grammar.specs.Values.{Bytes, Filtering, Reason, bad_duration, size_value}
use Rattle.lq_grammar.specs.Moments.{duration_of}

-- ---- SORT

-- how many records are kept, and how many are left out before
abbrev pub Cut : Type 0
Cut = Option ℕ × ℕ

-- the other way round, if so it is said after the list
abbrev pub turned : Bool → SortBy → SortBy
turned descending key = (key.0, if descending then not key.1 else key.1)

abbrev pub sorted : List SortBy → Bool → Cut → Stage
sorted keys descending cut =
    is.sort (record { keys = map (turned descending) keys; limit = cut.0; offset = cut.1 })

-- ---- UNIQ and TOP

abbrev pub distinct : List Bytes → Bool → Option ℕ → Stage
distinct names hits limit = is.uniq (record { names = names; hits = hits; limit = limit })

-- A BY without another one after it says no number, and then 10 are meant.
abbrev pub by_value : Bytes × Bool → Result ℕ Reason
by_value (word, false) = Ok 10
by_value (word, true) = size_value word

abbrev pub ranked : ℕ → List Bytes → Stage
ranked most names = is.top (record { most = most; names = names })

-- ---- STATS

abbrev pub some_step : ℤ → Result ℤ Reason
some_step step = if int_lt (pos 0) step then Ok step else Err bad_duration

abbrev pub step_from : Result ℤ DurationFault → Result ℤ Reason
step_from (Ok step) = some_step step
step_from (Err fault) = Err bad_duration

-- a duration that is not zero
abbrev pub step_value : Bytes → Result ℤ Reason
step_value text = step_from (duration_of text)

-- a function and the names of its fields
abbrev pub Calling : Type 0
Calling = Call × List Bytes

abbrev pub call_word : Call → Bytes
call_word Count = codes "count"
call_word CountEmpty = codes "count_empty"
call_word CountUniq = codes "count_uniq"
call_word Sum = codes "sum"
call_word Min = codes "min"
call_word Max = codes "max"
call_word UniqValues = codes "uniq_values"

-- `count()`, `sum(x)` or `count_uniq(a,b)`
abbrev pub call_text : Calling → Bytes
call_text calling = call_word calling.0 ++ codes "(" ++ join_with_byte 44 calling.1 ++ codes ")"

-- the name that was given, and else the call itself
abbrev pub name_or_call : Calling → Option Bytes → Bytes
name_or_call calling None = call_text calling
name_or_call calling (Some name) = name

abbrev pub statistic_of : Calling → Option Condition × Option Bytes → Statistic
statistic_of calling end =
    record { call = calling.0; names = calling.1; only = end.0; name = name_or_call calling end.1 }

abbrev pub grouped : List GroupBy → List Statistic → Stage
grouped keys statistics = is.stats (record { keys = keys; statistics = statistics })

-- ---- queries

abbrev pub asked : Filtering → List Stage → Question
asked filter stages = record { condition = filter None; stages = stages }
