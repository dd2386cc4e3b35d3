-- Which fields of records matter to what pipes make of them.
use Rattle.std.specs.Prelude.{ℕ, Bool, true, false, List, [], ◌∷◌, ◌++◌, map, flat_map, Option, Some, None, option_map}
use Rattle.std.specs.Prelude.{if◌then◌else◌}
use Rattle.std.specs.Option.{option_map_or}
use Rattle.lq_ast.specs.Condition.{Condition, Conditions}
use Rattle.lq_ast.specs.Condition as is
use Rattle.lq_ast.specs.Making.{Expression, Making, MathItem, extract, format, len, math, two, value_of, whole}
use Rattle.lq_ast.specs.PatternText.{PatternPiece, named, plain}
use Rattle.lq_ast.specs.Records.{Record, only_fields}
use Rattle.lq_ast.specs.Stage.{Stage, Statistic}
use Rattle.lq_ast.specs.Stage as does

-- the fields whose values a condition asks
abbrev mutual
  pub asked_by : Condition → List (List ℕ)
  asked_by is.always = []
  asked_by (is.some_value name) = name ∷ []
  asked_by (is.no_value name) = name ∷ []
  asked_by (is.phrase name text) = name ∷ []
  asked_by (is.prefix name text) = name ∷ []
  asked_by (is.exact name text) = name ∷ []
  asked_by (is.exact_prefix name text) = name ∷ []
  asked_by (is.one_of name texts) = name ∷ []
  asked_by (is.pattern name text) = name ∷ []
  asked_by (is.folded name text) = name ∷ []
  asked_by (is.sequence name phrases) = name ∷ []
  asked_by (is.length_in name low high) = name ∷ []
  asked_by (is.text_in name low high) = name ∷ []
  asked_by (is.number_in name low high) = name ∷ []
  asked_by (is.last span) = []
  asked_by (is.times from to) = []
  asked_by (is.selected groups) = []
  asked_by (is.negated condition) = asked_by condition
  asked_by (is.all_of conditions) = asked_among conditions
  asked_by (is.any_of conditions) = asked_among conditions

  pub asked_among : Conditions → List (List ℕ)
  asked_among is.no_more = []
  asked_among (is.one_more condition conditions) = asked_by condition ++ asked_among conditions

abbrev pub asked_by_statistic : Statistic → List (List ℕ)
asked_by_statistic s = s.names ++ option_map_or asked_by s.only []

abbrev pub named_in_piece : PatternPiece → List (List ℕ)
named_in_piece (plain text) = []
named_in_piece (named name) = name ∷ []

abbrev pub named_in_expression : Expression → List (List ℕ)
named_in_expression (whole n) = []
named_in_expression (value_of field) = field ∷ []
named_in_expression (two op left right) = named_in_expression left ++ named_in_expression right

abbrev pub named_in_item : MathItem → List (List ℕ)
named_in_item item = named_in_expression item.0

-- the fields whose values a pipe that sets fields names
abbrev pub named_by : Making → List (List ℕ)
named_by (extract pieces from) = from ∷ []
named_by (format pieces name) = flat_map named_in_piece pieces
named_by (len from name) = from ∷ []
named_by (math items) = flat_map named_in_item items

-- the fields that a pipe looks at
abbrev pub looked_at : Stage → List (List ℕ)
looked_at (does.fields names) = names
looked_at (does.delete names) = []
looked_at (does.rename pairs) = map (λ pair. pair.0) pairs
looked_at (does.copy pairs) = map (λ pair. pair.0) pairs
looked_at (does.limit n) = []
looked_at (does.offset n) = []
looked_at (does.sort sorting) = map (λ key. key.0) sorting.keys
looked_at (does.uniq distinct) = distinct.names
looked_at (does.stats grouping) =
    map (λ key. key.0) grouping.keys ++ flat_map asked_by_statistic grouping.statistics
looked_at (does.keep condition) = asked_by condition
looked_at (does.top ranking) = ranking.names
looked_at (does.make making) = named_by making

-- It makes its records of these fields only.
abbrev pub makes_anew : Stage → Bool
makes_anew (does.fields names) = true
makes_anew (does.uniq distinct) = true
makes_anew (does.stats grouping) = true
makes_anew (does.top ranking) = true
makes_anew _ = false

-- the fields that matter to pipes; all, if none of them makes its records again
abbrev pub needed : List Stage → Option (List (List ℕ))
needed [] = None
needed (first ∷ others) =
    if makes_anew first then Some (looked_at first)
    else option_map (λ later. looked_at first ++ later) (needed others)

-- the fields of a record that matter
abbrev pub narrowed : Option (List (List ℕ)) → Record → Record
narrowed None r = r
narrowed (Some names) r = only_fields names r
