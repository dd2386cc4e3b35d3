-- What parsing answers, as the outcome of a text.
use Rattle.std.specs.Prelude.{Result, Ok, Err}
use Rattle.grammar.specs.Reading.{Stop, read_at, whole}
use Rattle.lq_ast.specs.Question.{Question, question}
use Rattle.lq_ast.specs.declared.query.Query.{Query}
use Rattle.lq_grammar.specs.Values.{Bytes, Reason}
use Rattle.lq_grammar.specs.LogsQL.{logsql, query}
use Rattle.lq_grammar.specs.Query.{Items, most_open, IsFirstFault}
use Rattle.lq_grammar.specs.declared.fault.QueryFault.{QueryFault}
use Rattle.lq_grammar.specs.declared.fault.QueryFault.TheVariants.{Memory}

-- what the query asks, or the fault
abbrev pub outcome : Result Query QueryFault → Result Question QueryFault
outcome (Ok query) = Ok (question query)
outcome (Err fault) = Err fault

-- the result of reading all tokens from the left
abbrev pub reading : Items → Result Question (Stop Reason)
reading items = whole (read_at logsql most_open query) items

-- This is the first fault of these tokens of the text, unless memory ran out.
abbrev pub NamesStop : Bytes → Items → QueryFault → Type 0
NamesStop text items Memory = Unit {0}
NamesStop text items fault = IsFirstFault text items fault
