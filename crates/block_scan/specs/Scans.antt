-- What a scan of blocks is asked.
use Rattle.std.specs.Prelude.{ℤ, Bool}
use Rattle.log_model.specs.History.{Numbered}
use Rattle.lq_ast.specs.Condition.{Condition}
use Rattle.lq_ast.specs.Holds.{holds}
use Rattle.lq_filter.specs.Tree.{condition_of_tree}
use Rattle.block_scan.specs.declared.scanner.Scanner.{Scanner}

-- the condition of the query whose filter is asked
abbrev pub condition_of_scanner : Scanner → Condition
condition_of_scanner scanner = condition_of_tree scanner.filter.now

-- the moment at which it is asked
abbrev pub moment_of_scanner : Scanner → ℤ
moment_of_scanner scanner = scanner.now

-- The condition holds for a row with its numbers.
abbrev pub row_holds : ℤ → Condition → Numbered → Bool
row_holds now condition numbered = holds now condition numbered.row
