-- What reading a whole text of tokens answers.
use Rattle.std.proofs.Common.{◌≡◌, ℕ, Result, Err}
use Rattle.grammar.specs.Spelling.{Flaw, Outcome}
use Rattle.grammar.specs.Reading.{Stop, flawed, read_at, whole, as_read}
use Rattle.grammar.proofs.Names.{Answers}
use Rattle.grammar.proofs.Whole.{StopsFirst, answered, answered_only, flawed_only, flawed_so}
use Rattle.lq_ast.specs.Question.{Question}
use Rattle.lq_grammar.specs.Values.{Reason}
use Rattle.lq_grammar.specs.LogsQL.{logsql, query}
use Rattle.lq_grammar.specs.Query.{Items, most_open, IsQuery, IsFlawed}
use Rattle.lq_grammar.proofs.Passing.{passes, query_passes}

-- the result of reading the tokens from the left
abbrev pub reading : Items → Result Question (Stop Reason)
reading items = whole (read_at logsql most_open query) items

-- what a query asks, where no query goes on, or the place of a flaw
pub answered_query : (items : Items) → Answers IsQuery items (reading items)
answered_query items = answered passes query query_passes most_open items

-- what the tokens spell is read, so they spell at most one query
pub only_query : (r : Outcome Reason Question) (items : Items) → IsQuery r items → reading items ≡ as_read r
only_query r items s = answered_only passes query query_passes most_open r items s

-- a flaw of the tokens is read, or one before it
pub only_flaw : (flaw : Flaw Reason) (at : ℕ) (items : Items) → IsFlawed items flaw at
    → StopsFirst (reading items) (flaw, at) items
only_flaw flaw at items s = flawed_only passes query query_passes most_open (flaw, at) items s

-- and they have the one that is read
pub has_flaw : (flaw : Flaw Reason) (at : ℕ) (items : Items) → reading items ≡ Err (flawed flaw at)
    → IsFlawed items flaw at
has_flaw flaw at items e = flawed_so passes query query_passes most_open (flaw, at) items e
