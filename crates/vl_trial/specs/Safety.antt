-- Questions that always have records over rows of small numbers.
use Rattle.std.specs.Prelude.{◌≡◌, ◌⊎◌, ℕ, ◌*◌, ◌^◌, ◌<◌, ◌≤◌, List, [], ◌∷◌, length, ℤ, pos, ◌≤ℤ◌, IfSome}
use Rattle.std.specs.List.{AllByRecursion}
use Rattle.log_model.specs.Field.{field_value}
use Rattle.log_model.specs.Order.{number_of}
use Rattle.log_model.specs.Row.{Row, record_of}
use Rattle.lq_ast.specs.Evaluation.{evaluate, records, row_limit}
use Rattle.lq_ast.specs.Question.{Question}
use Rattle.lq_ast.specs.Records.{Record}
use Rattle.lq_ast.specs.Stage.{Grouping, Statistic, stats}
use Rattle.lq_ast.specs.declared.pipe.Call.TheVariants.{Count, Sum}
use Rattle.vl_trial.specs.Trial.{trial_rows}

-- The evaluation gives records: no total overflows, and the rows that hold are not too many.
abbrev pub EvaluatesToRecords : Question → ℤ → List Row → Type 0
EvaluatesToRecords asked now rows = (found : List Record) × (evaluate asked now rows ≡ records found)

-- the number of records, or the sum of this field
abbrev pub IsCountOrSum : List ℕ → Statistic → Type 0
IsCountOrSum field statistic =
    (statistic.call ≡ Count) ⊎ ((statistic.call ≡ Sum) × (statistic.names ≡ field ∷ []))

-- The only pipe is `stats`, and its functions are counts and sums of this field.
pub record CountsAndSums (field : List ℕ) (asked : Question) : Type 0 where
  pub grouping : Grouping
  pub stages : asked.stages ≡ stats grouping ∷ []
  pub functions : AllByRecursion (IsCountOrSum field) grouping.statistics

-- Where the field has a number, that lies in 0 to `most`.
abbrev pub IsUpTo : ℕ → List ℕ → Row → Type 0
IsUpTo most field row =
    IfSome (number_of (field_value (record_of row) field)) (λ number. (pos 0 ≤ℤ number) × (number ≤ℤ pos most))

-- Over fewer than 2 ^ 32 rows, of which even the greatest numbers together would not overflow, such a question has
-- records.
abbrev pub StatsLaw : Type 0
StatsLaw =
    (field : List ℕ) (asked : Question) (now : ℤ) (most : ℕ) (rows : List Row) → CountsAndSums field asked
    → AllByRecursion (IsUpTo most field) rows → length rows < row_limit → length rows * most < 2 ^ 63
    → EvaluatesToRecords asked now rows

-- Whatever the moment, the seed and the number of rows, it has records over the rows of a trial.
abbrev pub AlwaysEvaluates : Question → Type 0
AlwaysEvaluates asked =
    (now : ℤ) (seed rows : ℕ) → rows ≤ 1_000_000 → EvaluatesToRecords asked now (trial_rows seed rows)
