-- Functions that are prepared, and whether they are asked of a record.
use Rattle.std.specs.Prelude.{Bool, true, option_map}
use Rattle.std.specs.Option.{option_map_or}
use Rattle.lq_ast.specs.Holds.{record_holds}
use Rattle.lq_ast.specs.Records.{Record}
use Rattle.lq_ast.specs.Stage.{Statistic}
use Rattle.lq_filter.specs.Inner.{inner_condition, record_condition}
use Rattle.lq_stats.specs.declared.function.Function.{Function}
use Rattle.lq_stats.specs.declared.function_scan.FunctionScan.{FunctionScan}

-- the function that was prepared
abbrev pub statistic_of : Function → Statistic
statistic_of f = record {
  call = f.call;
  names = f.names.items;
  only = option_map inner_condition f.only;
  name = f.name;
}

-- the function that is asked of records, under the condition that is scanned
abbrev pub scanned_statistic : FunctionScan → Statistic
scanned_statistic scan = record {
  call = scan.function.now.call;
  names = scan.function.now.names.items;
  only = option_map record_condition scan.only;
  name = scan.function.now.name;
}

-- The function's condition holds for the record, or it has none.
abbrev pub is_asked : Statistic → Record → Bool
is_asked s r = option_map_or (λ condition. record_holds condition r) s.only true
