-- What follows a word, as a value or as a rule.
use Rattle.std.specs.Prelude.{Bool, true, false, List, ℕ, Option}
use Rattle.std.specs.Option.{option_map}
use Rattle.lq_ast.specs.Condition.{Condition}
use Rattle.lq_ast.specs.View.{condition}
use Rattle.lq_ast.specs.PatternText.{Pieces}
use Rattle.lq_grammar.specs.LogsQL.{Parse, extract_pieces, format_pieces}
use Rattle.lq_parse.specs.declared.stats.FuncEnd.{FuncEnd}

-- for which records a function is, and the name of its value
abbrev pub func_end_of : FuncEnd → Option Condition × Option (List ℕ)
func_end_of end = (option_map condition end.only, end.name)

-- a pattern by which values are taken out, or one by which a value is put together
abbrev pub pieces : Bool → Parse Pieces
pieces true = extract_pieces
pieces false = format_pieces
