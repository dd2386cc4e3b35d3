-- The answer to a query over rows, and why there is none.
use Rattle.std.specs.Prelude.{◌≡◌, ℕ, ◌≤◌, ℤ, List, length, Ok, Err}
use Rattle.std.specs.List.{AllByRecursion}
use Rattle.log_model.specs.Print.{lines_text}
use Rattle.log_model.specs.Row.{Row}
use Rattle.lq_ast.specs.Evaluation.{evaluate, many_rows, overflow, records, row_limit}
use Rattle.lq_ast.specs.Patterns.{CanBeRead, all_patterns}
use Rattle.lq_ast.specs.Pipes.{all_piped}
use Rattle.lq_ast.specs.Question.{Question}
use Rattle.lq_ast.specs.Records.{Record}
use Rattle.lq_ast.specs.Stage.{Stage}
use Rattle.lq_filter.specs.Refusal.{IsFirstUnreadable}
use Rattle.lq_filter.specs.declared.fault.PrepareFault.{PrepareFault}
use Rattle.lq_filter.specs.declared.fault.PrepareFault.TheVariants as preparing
use Rattle.matching_rows.specs.declared.fault.MatchFault.{MatchFault}
use Rattle.matching_rows.specs.declared.fault.MatchFault.TheVariants as matches
use Rattle.query_run.specs.declared.fault.SearchFault.{SearchFault}
use Rattle.query_run.specs.declared.fault.SearchFault.TheVariants.{ManyRows, Overflow, Memory}
use Rattle.query_run.specs.declared.fault.RunFault.{RunFault}
use Rattle.query_run.specs.declared.fault.RunFault.TheVariants as running

-- The text is the answer to the query at this moment over these rows: the lines of the records that it has.
pub record IsAnswerOver (query : Question) (now : ℤ) (rows : List Row) (text : List ℕ) : Type 0 where
  pub found : List Record
  pub evaluated : evaluate query now rows ≡ records found
  pub printed : text ≡ lines_text found

-- why the answer of a query that was prepared is missing over them; `Memory` may always be returned
abbrev pub FailsOver : Question → ℤ → List Row → SearchFault → Type 0
FailsOver query now rows ManyRows = evaluate query now rows ≡ many_rows
FailsOver query now rows (Overflow name) = evaluate query now rows ≡ overflow name
FailsOver query now rows Memory = Unit {0}

-- Why the rows that hold are not gathered.
abbrev pub FailsMatching : List Row → SearchFault → Type 0
FailsMatching rows ManyRows = row_limit ≤ length rows
FailsMatching rows (Overflow name) = ⊥
FailsMatching rows Memory = Unit {0}

-- what a fault of gathering is to the caller of a query
abbrev pub gathering_fault : MatchFault → SearchFault
gathering_fault matches.ManyRows = ManyRows
gathering_fault matches.Memory = Memory

-- what a fault of preparing is to the caller of a query
abbrev pub preparing_fault : PrepareFault → RunFault
preparing_fault (preparing.RegexRefused nth) = running.RegexRefused nth
preparing_fault preparing.Memory = running.Memory

-- what a fault of a search is to the caller of a query
abbrev pub searching_fault : SearchFault → RunFault
searching_fault ManyRows = running.ManyRows
searching_fault (Overflow name) = running.Overflow name
searching_fault Memory = running.Memory

-- The text prints what the pipes make of these records.
abbrev pub PrintsPiped : List Stage → List Record → List ℕ → Type 0
PrintsPiped stages rs text = (found : List Record) × (all_piped stages rs ≡ Ok found) × (text ≡ lines_text found)

-- Why the pipes make nothing of them.
abbrev pub FailsPiped : List Stage → List Record → SearchFault → Type 0
FailsPiped stages rs ManyRows = ⊥
FailsPiped stages rs (Overflow name) = all_piped stages rs ≡ Err name
FailsPiped stages rs Memory = Unit {0}

-- Why a query gives no records over these rows. The expression with this number is the first that cannot be read. All
-- can be read where the evaluation gives another cause.
abbrev pub FailsRun : Question → ℤ → List Row → RunFault → Type 0
FailsRun query now rows (running.RegexRefused nth) = IsFirstUnreadable (all_patterns query) nth
FailsRun query now rows running.ManyRows =
    AllByRecursion CanBeRead (all_patterns query) × FailsOver query now rows ManyRows
FailsRun query now rows (running.Overflow name) =
    AllByRecursion CanBeRead (all_patterns query) × FailsOver query now rows (Overflow name)
FailsRun query now rows running.Memory = Unit {0}
