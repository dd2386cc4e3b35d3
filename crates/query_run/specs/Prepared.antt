-- A query that is asked with its prepared filter.
use Rattle.std.specs.Prelude.{◌≡◌}
use Rattle.lq_ast.specs.View.{condition}
use Rattle.lq_filter.specs.Tree.{condition_of}
use Rattle.query_run.specs.declared.asked.Asked.{Asked}

-- The filter was prepared from the query.
abbrev pub IsPrepared : Asked → Type 0
IsPrepared asked = condition_of asked.filter.now ≡ condition asked.query.now.filter
