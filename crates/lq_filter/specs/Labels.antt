-- The selector that a prepared one was made from.
use Rattle.std.specs.Prelude.{ℕ, List, map}
use Rattle.lq_ast.specs.Condition.{Test, Tests}
use Rattle.lq_ast.specs.declared.select.How.{How}
use Rattle.lq_ast.specs.declared.select.How.TheVariants as how
use Rattle.lq_filter.specs.declared.labels.Asked.{Asked}
use Rattle.lq_filter.specs.declared.labels.Asked.TheVariants.{Is, IsNot, Matches, MatchesNot}
use Rattle.lq_filter.specs.declared.labels.PreparedTest.{PreparedTest}
use Rattle.lq_filter.specs.declared.labels.PreparedGroup.{PreparedGroup}
use Rattle.lq_filter.specs.declared.labels.Selector.{Selector}

abbrev pub how_of : Asked → How
how_of (Is text) = how.Is
how_of (IsNot text) = how.IsNot
how_of (Matches pattern) = how.Matches
how_of (MatchesNot pattern) = how.MatchesNot

abbrev pub text_of : Asked → List ℕ
text_of (Is text) = text
text_of (IsNot text) = text
text_of (Matches pattern) = pattern
text_of (MatchesNot pattern) = pattern

abbrev pub test_of : PreparedTest → Test
test_of t = (t.name, how_of t.asked, text_of t.asked)

abbrev pub tests_of : PreparedGroup → Tests
tests_of g = map test_of g.tests.items

abbrev pub groups_of : Selector → List Tests
groups_of s = map tests_of s.groups.items
