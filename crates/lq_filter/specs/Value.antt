-- What a prepared test asks of a value, and the condition that it was made from.
use Rattle.std.specs.Prelude.{ℕ, Bool, false, not, ◌&&◌, nat_le, nat_eq, List, length, chars, bytes_eq}
use Rattle.std.specs.Prelude.{if◌then◌else◌}
use Rattle.std.specs.List.{list_any, starts_with}
use Rattle.std.specs.Option.{option_map_or}
use Rattle.std.specs.Ordering.{is_lt}
use Rattle.log_model.specs.Field.{bytes_cmp, is_empty}
use Rattle.log_model.specs.Order.{number_of}
use Rattle.log_model.specs.Words.{occurs}
use Rattle.lq_ast.specs.Condition as is
use Rattle.lq_ast.specs.Holds.{is_within}
use Rattle.lq_ast.specs.Patterns.{is_found}
use Rattle.lq_ast.specs.Phrases.{case_folded, in_order}
use Rattle.word_tokens.specs.Prefix.{occurs_as_prefix}
use Rattle.lq_filter.specs.declared.value.FieldTest.{FieldTest}
use Rattle.lq_filter.specs.declared.value.ValueTest.{ValueTest}
use Rattle.lq_filter.specs.declared.value.ValueTest.TheVariants.{Filled, Missing, Phrase, Prefix, Exact, ExactPrefix}
use Rattle.lq_filter.specs.declared.value.ValueTest.TheVariants.{OneOf, Pattern, Folded, Sequence, Length, Between}
use Rattle.lq_filter.specs.declared.value.ValueTest.TheVariants.{Number}

abbrev pub value_holds : ValueTest → List ℕ → Bool
value_holds Filled value = not (is_empty value)
value_holds Missing value = is_empty value
value_holds (Phrase text) value = occurs value text
value_holds (Prefix text) value = if is_empty text then not (is_empty value) else occurs_as_prefix value text
value_holds (Exact text) value = bytes_eq value text
value_holds (ExactPrefix text) value = starts_with nat_eq value text
value_holds (OneOf texts) value = list_any (bytes_eq value) texts
value_holds (Pattern text) value = is_found text value
value_holds (Folded text) value =
    if is_empty text then is_empty value else occurs (case_folded value) (case_folded text)
value_holds (Sequence texts) value = in_order value 0 texts.items
value_holds (Length low high) value = nat_le low (length (chars value)) && nat_le (length (chars value)) high
value_holds (Between low high) value =
    not (is_lt (bytes_cmp value low)) && is_lt (bytes_cmp value high)
value_holds (Number low high) value = option_map_or (is_within low high) (number_of value) false

abbrev pub condition_on : List ℕ → ValueTest → is.Condition
condition_on name Filled = is.some_value name
condition_on name Missing = is.no_value name
condition_on name (Phrase text) = is.phrase name text
condition_on name (Prefix text) = is.prefix name text
condition_on name (Exact text) = is.exact name text
condition_on name (ExactPrefix text) = is.exact_prefix name text
condition_on name (OneOf texts) = is.one_of name texts
condition_on name (Pattern text) = is.pattern name text
condition_on name (Folded text) = is.folded name text
condition_on name (Sequence texts) = is.sequence name texts.items
condition_on name (Length low high) = is.length_in name low high
condition_on name (Between low high) = is.text_in name low high
condition_on name (Number low high) = is.number_in name low high

-- the name of the field
abbrev pub field_name : FieldTest → List ℕ
field_name field = field.name

-- The value is as asked of the field.
abbrev pub field_holds : FieldTest → List ℕ → Bool
field_holds field value = value_holds field.test value

abbrev pub condition_of_field : FieldTest → is.Condition
condition_of_field field = condition_on field.name field.test
