-- What the three queries of a trial ask.
use Rattle.std.specs.Prelude.{◌-◌, ◌^◌, List, [], ◌∷◌, codes, pos, None}
use Rattle.lq_ast.specs.Condition.{Condition, conditions}
use Rattle.lq_ast.specs.Condition as is
use Rattle.lq_ast.specs.Question.{Question}
use Rattle.lq_ast.specs.Stage.{GroupBy, Stage, Statistic}
use Rattle.lq_ast.specs.Stage as does
use Rattle.lq_ast.specs.declared.pipe.Call.TheVariants.{Count, Sum}
use Rattle.lq_ast.specs.declared.select.How.TheVariants.{Is}

-- `count() as n`
abbrev pub count_as_n : Statistic
count_as_n = record { call = Count; names = []; only = None; name = codes "n" }

-- `sum(ms) as s`
abbrev pub sum_as_s : Statistic
sum_as_s = record { call = Sum; names = codes "ms" ∷ []; only = None; name = codes "s" }

abbrev pub stats_by : List GroupBy → List Statistic → Stage
stats_by keys statistics = does.stats (record { keys = keys; statistics = statistics })

-- `* | stats count() as n`
abbrev pub all_counted : Question
all_counted = record { condition = is.always; stages = stats_by [] (count_as_n ∷ []) ∷ [] }

-- `error | stats by (app) count() as n, sum(ms) as s`
abbrev pub errors_by_app : Question
errors_by_app = record {
  condition = is.phrase (codes "_msg") (codes "error");
  stages = stats_by ((codes "app", None) ∷ []) (count_as_n ∷ sum_as_s ∷ []) ∷ [];
}

-- `_time:2024-05-01Z`: from the first nanosecond of that day to its last
abbrev pub on_the_day : Condition
on_the_day = is.times (pos 1_714_521_600_000_000_000) (pos 1_714_607_999_999_999_999)

-- `{app="db"}`
abbrev pub of_the_app : Condition
of_the_app = is.selected (((codes "app", Is, codes "db") ∷ []) ∷ [])

-- `ms:>500`
abbrev pub was_slow : Condition
was_slow = is.number_in (codes "ms") (pos 501) (pos (2 ^ 127 - 1))

-- `_time:2024-05-01Z {app="db"} ms:>500 | stats count() as n`
abbrev pub slow_counted : Question
slow_counted = record {
  condition = is.all_of (conditions (on_the_day ∷ of_the_app ∷ was_slow ∷ []));
  stages = stats_by [] (count_as_n ∷ []) ∷ [];
}

abbrev pub trial_questions : List Question
trial_questions = all_counted ∷ errors_by_app ∷ slow_counted ∷ []
