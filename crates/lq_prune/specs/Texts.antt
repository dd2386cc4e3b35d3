-- Conditions whose texts are in UTF-8.
use Rattle.std.specs.Prelude.{Bool, true, ◌&&◌}
use Rattle.std.specs.List.{list_all}
use Rattle.std.specs.Str.{is_utf8}
use Rattle.lq_ast.specs.Condition.{Condition, Conditions}
use Rattle.lq_ast.specs.Condition as is

-- The texts are in UTF-8 of which words are sought. What is negated needs nothing, so it may have any.
abbrev mutual
  pub has_texts : Condition → Bool
  has_texts (is.phrase name text) = is_utf8 text
  has_texts (is.prefix name text) = is_utf8 text
  has_texts (is.exact_prefix name text) = is_utf8 text
  has_texts (is.sequence name texts) = list_all is_utf8 texts
  has_texts (is.all_of conditions) = have_texts conditions
  has_texts (is.any_of conditions) = have_texts conditions
  has_texts _ = true

  pub have_texts : Conditions → Bool
  have_texts is.no_more = true
  have_texts (is.one_more condition conditions) = has_texts condition && have_texts conditions
